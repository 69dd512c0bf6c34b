-- BegunSo: a run begins with an honest log.
use Rattle.std.proofs.Common.{Bool, List, None, Option, Some, [], false, refl, subst, true, ℕ, ◌++◌, ◌∷◌, ◌≡◌}
use Rattle.std.specs.Prelude.{Ok, Result, if◌then◌else◌, nat_lt, length, ◌&&◌}
use Rattle.definitions.specs.declared.logs.Entry.{Entry}
use Rattle.definitions.specs.declared.logs.LogWhy.TheVariants.{NotReplayed, TooLong}
use Rattle.session_log.specs.declared.faults.LogFault.{LogFault}
use Rattle.session_log.specs.Reading.{fault_at}
use Rattle.definitions.specs.World.{Game}
use Rattle.definitions.specs.Honest.{IsHonest, allowed, honest_from}
use Rattle.definition_laws.proofs.ForPeers.{honest_empty}
use Rattle.run_frame.specs.declared.statuses.Status.{Status}
use Rattle.peer_core.specs.Resuming.{first_not_replayed}
use Rattle.old_log.specs.Old.{breach, is_anothers, old_entries, old_fault, old_owner}
use Rattle.definitions.specs.declared.limits.TheConstants.{LONGEST_LOG}
use Rattle.old_log.specs.Beginnings.{Beginning}
use Rattle.old_log.specs.Begun.{begun, empty_beginning, log_front_of, old_beginning}

-- entries of which none is the first that may not follow are honest
all_allowed : (game : Game) (me : ℕ) (g es : List Entry) → first_not_replayed game me g es ≡ None → honest_from game me g es ≡ true
unfolding honest_from
all_allowed game me g [] e = refl
all_allowed game me g (x ∷ es) e = go (allowed game me g x) refl e (all_allowed game me (g ++ x ∷ []) es)
  where
    go : (b : Bool) → allowed game me g x ≡ b → (if b then first_not_replayed game me (g ++ x ∷ []) es else Some (length g)) ≡ None →
        (first_not_replayed game me (g ++ x ∷ []) es ≡ None → honest_from game me (g ++ x ∷ []) es ≡ true) →
        (b && honest_from game me (g ++ x ∷ []) es) ≡ true
    go true a e ih = ih e
    go false a e ih = cc

no_breach : (game : Game) (me : ℕ) (entries : List Entry) (o : Option ℕ) → breach game me entries o ≡ None → o ≡ None
no_breach game me entries None e = refl
no_breach game me entries (Some i) e = cc

-- a log that has no fault has honest entries
old_honest : (game : Game) (me : ℕ) (bytes : List ℕ) → old_fault game me bytes ≡ None → IsHonest game me (old_entries game bytes)
old_honest game me bytes e =
    all_allowed game me [] (old_entries game bytes)
    (no_breach game me (old_entries game bytes) (first_not_replayed game me [] (old_entries game bytes)) (go (nat_lt LONGEST_LOG (length bytes)) (is_anothers me (old_owner game bytes) (old_entries game bytes)) e))
  where
    rest : Option LogFault
    rest = breach game me (old_entries game bytes) (first_not_replayed game me [] (old_entries game bytes))

    go : (a b : Bool) → (if a then Some (fault_at LONGEST_LOG TooLong) else if b then Some (fault_at 1 NotReplayed) else rest) ≡ None → rest ≡ None
    go true b e = cc
    go false true e = cc
    go false false e = e

-- what a run begins with is the session's and honest
pub record IsBegun (game : Game) (player : ℕ) (b : Beginning) : Type 0 where
  pub game_is : b.game ≡ game
  pub honest : IsHonest b.game player b.first

same_beginning : (a b : Beginning) → (let r : Result Beginning Status = Ok a in r ≡ Ok b) → a ≡ b
same_beginning a b e = cc

by_fault : (game : Game) (player : ℕ) (bytes : List ℕ) (b : Beginning) (fault : Option LogFault) → old_fault game player bytes ≡ fault → old_beginning game bytes fault ≡ Ok b → IsBegun game player b
by_fault game player bytes b None e f =
    subst (λ (b : Beginning). IsBegun game player b) (same_beginning _ b f) (record { game_is = refl; honest = old_honest game player bytes e })
by_fault game player bytes b (Some x) e f = cc

pub begun_honest : (game : Game) (player : ℕ) (old : Option (Option (List ℕ))) (b : Beginning) → begun player game old ≡ Ok b → IsBegun game player b
begun_honest game player None b e = subst (λ (b : Beginning). IsBegun game player b) (same_beginning (empty_beginning game) b e) (record { game_is = refl; honest = honest_empty game player })
begun_honest game player (Some content) b e = by_fault game player (log_front_of content) b (old_fault game player (log_front_of content)) refl e
