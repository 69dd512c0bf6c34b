-- Handled: the entry of a frame is kept, and all frames that wait are handled.
use Rattle.std.proofs.Common.{inl, inr, ◌≡◌, ℕ, zero, suc, ◌+◌, ◌<◌, Bool, true, false, refl, sym, ap, subst, ◌∙◌, List, [], ◌∷◌, ◌++◌, arith, length}
use Rattle.std.specs.Prelude.{◌&&◌, nat_lt, drop, take, Result, Ok, Err, OnOk}
use Rattle.std.proofs.lemmas.Bool.{ltb-false, le-ltb}
use Rattle.std.proofs.Math.Seq.{take-length}
use Rattle.definitions.specs.declared.logs.Entry.{Entry}
use Rattle.definitions.specs.declared.logs.Entry.TheVariants.{Got}
use Rattle.definitions.specs.Findings.{is_clean}
use Rattle.socket_station.specs.Items.{Item, Kept, Failed, KeepCall, keep_item}
use Rattle.peer_rules.specs.declared.arrivals.Arrival.{Arrival}
use Rattle.peer_rules.specs.declared.phases.Phase.TheVariants.{Running, KeepFault}
use Rattle.loop_rules.specs.Tables.{Table}
use Rattle.loop_rules.specs.Handling.{with_waiting, sorted}
use Rattle.loop_rules.specs.Told.{IsTold}
use Rattle.ready_loop.specs.declared.stops.Stop.{Stop}
use Rattle.ready_loop.specs.declared.stops.Stop.TheVariants as T
use Rattle.ready_loop.specs.States.{LoopState, kept_of, base_of, rest_of, view_of}
use Rattle.ready_loop.specs.Steps.{did_by, next_bytes, kept_next, in_phase}
use Rattle.ready_loop.specs.Going.{Goes, IsPlayed, IsSteady}
use Rattle.ready_loop.specs.Handling.{Advances, KeepsLines, has_next, cleared, IsHearing, IsGot, Hears, StandsHeard, Handles}
use Rattle.ready_loop.specs.Settling.{IsReady, StandsClean, Catches}
use Rattle.ready_loop.proofs.Sorting.{sorted_unclean}
use Rattle.ready_loop.proofs.Going.{goes_one, goes_then, goes_still}
use Rattle.ready_loop.proofs.Kept.{MayKeep, fault_told, got_told}
use Rattle.ready_loop.proofs.Stopped.{faulty_unchosen}

-- ---- the entry of a frame

pub got_faults : (items after : List Item) (l m : LoopState) (e : Entry) → MayKeep items l e → l.peer.entries ≡ kept_of l ++ e ∷ [] → after ≡ items ++ keep_item (did_by false) (next_bytes l) ∷ [] → m ≡ kept_next false l → Hears (Err T.KeepFault) items after l m
got_faults items after l m e w entries on same =
    subst (λ (x : LoopState). Hears (Err T.KeepFault) items after l x) (sym same) (record {
      goes = goes_one items after (Failed (KeepCall (next_bytes l))) l (in_phase KeepFault l) on refl tt refl (omega arith) (fault_told items l e w) refl;
      keeps = record { lines = refl; rooms = λ p. refl };
      waiting = refl;
      handled = tt;
      stands = (refl, record { fault = refl; rest = inr (inl (e, entries)) });
    })

pub got_goes : (items after : List Item) (l m : LoopState) (w : IsGot l) → l.handled < length l.table.waiting → MayKeep items l (Got w.arrival.player w.arrival.frame) →
    after ≡ items ++ keep_item (did_by true) (next_bytes l) ∷ [] → m ≡ record l { kept = l.kept + 1; handled = l.handled + 1 } → Goes items after l m
got_goes items after l m w lt k on same =
    subst (λ (x : LoopState). Goes items after l x) (sym same)
    (goes_one items after (Kept (next_bytes l)) l (record l { kept = l.kept + 1; handled = l.handled + 1 }) on refl tt refl (omega arith) (got_told items l w lt k) refl)

always : {P : Type 0} (r : Result (Unit {0}) Stop) → P → OnOk r P
always (Ok u) p = p
always (Err stop) p = tt

-- and the own frames that it lets be made
pub got_hears : (r : Result (Unit {0}) Stop) (items mid after : List Item) (l m n : LoopState) → Goes items mid l m → m ≡ record l { kept = l.kept + 1; handled = l.handled + 1 } → Advances r mid after m n → Hears r items after l n
got_hears r items mid after l m n g same a = record {
  goes = goes_then items mid after l m n g a.goes;
  keeps = subst (KeepsLines l.table) (sym table) (record { lines = refl; rooms = λ p. refl });
  waiting = ap (λ (t : Table). t.waiting) table;
  handled = always r (a.handled ∙ ap (λ (x : LoopState). x.handled) same);
  stands = a.stands;
}
  where
    table : n.table ≡ l.table
    table = a.table ∙ ap (λ (x : LoopState). x.table) same

-- ---- all frames that wait

pub record Handling (before items : List Item) (l m : LoopState) : Type 0 where
  pub goes : Goes before items l m
  pub keeps : KeepsLines l.table m.table
  pub running : m.phase ≡ Running
  pub played : IsPlayed m

pub handles_first : (items : List Item) (l : LoopState) → IsHearing items l → Handling items items l l
handles_first items l w = record { goes = goes_still items l w.told; keeps = record { lines = refl; rooms = λ p. refl }; running = w.running; played = w.played }

pub keeps_then : (t u v : Table) → KeepsLines t u → KeepsLines u v → KeepsLines t v
keeps_then t u v a b = record { lines = b.lines ∙ a.lines; rooms = λ p. b.rooms p ∙ a.rooms p }

pub handles_on : (u : Unit {0}) (before items after : List Item) (l m n : LoopState) → Handling before items l m → Hears (Ok u) items after m n → Handling before after l n
handles_on u before items after l m n w h = record {
  goes = goes_then before items after l m n w.goes h.goes;
  keeps = keeps_then l.table m.table n.table w.keeps h.keeps;
  running = h.stands.0;
  played = h.stands.1;
}

pub handles_fault : (stop : Stop) (before items after : List Item) (l m n : LoopState) → Handling before items l m → Hears (Err stop) items after m n → Handles (Err stop) before after l n
handles_fault stop before items after l m n w h = record {
  goes = goes_then before items after l m n w.goes h.goes;
  keeps = keeps_then l.table m.table n.table w.keeps h.keeps;
  stands = faulty_unchosen stop n h.stands;
}

-- nothing waits any more, or nothing is to be handled after a finding
drop_all : {X : Type 0} (n : ℕ) (xs : List X) → nat_lt n (length xs) ≡ false → drop n xs ≡ []
drop_all zero [] lt = refl
drop_all zero (x ∷ xs) lt = absurd (let le = ltb-false 0 (length (x ∷ xs)) lt in omega (arith, le))
drop_all (suc n) [] lt = refl
drop_all (suc n) (x ∷ xs) lt = drop_all n xs (let le = ltb-false (suc n) (length (x ∷ xs)) lt in le-ltb n (length xs) (omega (arith, le)))

clear_shows : (m : LoopState) → kept_of m ≡ m.peer.entries → has_next m ≡ false → view_of (cleared m) ≡ view_of m
clear_shows m all none = go (nat_lt m.handled (length m.table.waiting)) (is_clean m.peer.game m.peer.entries) refl refl none
  where
    go : (b c : Bool) → nat_lt m.handled (length m.table.waiting) ≡ b → is_clean m.peer.game m.peer.entries ≡ c → (b && c) ≡ false → with_waiting [] (base_of m) ≡ view_of m
    go false c w k e = sym (ap (λ (rest : List Arrival). sorted rest (base_of m)) (drop_all m.handled m.table.waiting w))
    go true true w k e = absurd (cc)
    go true false w k e = sym (sorted_unclean (rest_of m) (base_of m) (ap (is_clean m.peer.game) all ∙ k))

cleared_goes : (before items : List Item) (l m n : LoopState) → Handling before items l m → has_next m ≡ false → n ≡ cleared m → Goes before items l n
cleared_goes before items l m n w none same =
    subst (λ (x : LoopState). Goes before items l x) (sym same) (record {
      more = w.goes.more;
      grown = w.goes.grown;
      new = w.goes.new;
      polls = w.goes.polls;
      setting = w.goes.setting;
      undialled = w.goes.undialled;
      chosen = w.goes.chosen;
      told = subst (IsTold items) (sym (clear_shows m (ap (λ (k : ℕ). take k m.peer.entries) w.played.kept ∙ take-length m.peer.entries) none)) w.goes.told;
    })

cleared_steady : (before items : List Item) (l m n : LoopState) → Handling before items l m → n ≡ cleared m → IsSteady n
cleared_steady before items l m n w same =
    subst IsSteady (sym same) (record { idle = record { running = w.running; kept = w.played.kept; waiting = refl; handled = refl }; made = w.played.made })

pub cleared_ready : (before items : List Item) (l m n : LoopState) → Handling before items l m → has_next m ≡ false → n ≡ cleared m → IsReady items n
cleared_ready before items l m n w none same = record { told = (cleared_goes before items l m n w none same).told; idle = (cleared_steady before items l m n w same).idle }

pub handles_all : (r : Result (Unit {0}) Stop) (before items after : List Item) (l m n o : LoopState) → Handling before items l m → has_next m ≡ false → n ≡ cleared m → Catches r items after n o → Handles r before after l o
handles_all r before items after l m n o w none same c = record {
  goes = goes_then before items after l n o (cleared_goes before items l m n w none same) c.goes;
  keeps = subst (KeepsLines l.table) (sym (c.table ∙ ap (λ (x : LoopState). x.table) same)) (record { lines = w.keeps.lines; rooms = w.keeps.rooms });
  stands = go r c.stands;
}
  where
    go : (q : Result (Unit {0}) Stop) → StandsClean q n o → StandsHeard q o
    go (Ok u) s = (subst IsSteady (sym s.0) (cleared_steady before items l m n w same), subst (λ (x : LoopState). is_clean x.peer.game x.peer.entries ≡ true) (sym s.0) s.1)
    go (Err stop) s = s
