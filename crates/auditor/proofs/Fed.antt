-- Fed: entries that a feed gives, and logs with several entries more.
use Rattle.std.proofs.Common.{List, Some, [], ap, append_assoc, drop, refl, subst, sym, true, ℕ, ◌++◌, ◌∙◌, ◌∷◌, ◌≡◌, ◌+◌, ◌<◌, ◌≤◌, arith, get_or, inl, inr, length, set, suc, take}
use Rattle.std.specs.Prelude.{◌&&◌, ◌==◌, Err, Ok, OnErr, Result, nat_lt, not}
use Rattle.std.specs.List.{list_all}
use Rattle.std.proofs.lemmas.Bool.{and_parts, cases_lt}
use Rattle.std.proofs.Math.Seq.{take-suc}
use Rattle.std.proofs.lemmas.List.{take_more_set}
use Rattle.std.proofs.lemmas.List.Folds.{list_all-append}
use Rattle.definitions.specs.declared.logs.Entry.{Entry}
use Rattle.definitions.specs.declared.logs.Entry.TheVariants.{Chose, Made, Got}
use Rattle.definitions.specs.World.{Game, players_of}
use Rattle.definitions.specs.Logs.{player_of, turn_of}
use Rattle.definitions.specs.Entries.{is_well_formed}
use Rattle.definitions.specs.Answers.{is_of_another}
use Rattle.frame_index.specs.Appended.{with_entry}
use Rattle.session_log.specs.Feeding.{LogFeeding, LogGiven, fed_step, given_of}
use Rattle.session_log.specs.Fed.{Fed, IsFeedOf}
use Rattle.session_log.proofs.FedWell.{fed_well}
use Rattle.auditor.specs.Audits.{AuditState, IsAuditOf, is_of_its_sender}
use Rattle.auditor.specs.Taking.{ReadsAll, ReadsOn, Takes, TakesAll, TakesFront, TakesOn, TakesSome, given_behind, with_entries}

-- what holds holds on an error
pub on_err_always : {T E P : Type 0} (r : Result T E) → P → OnErr r P
on_err_always (Ok x) p = tt
on_err_always (Err e) p = p

-- an entry that an owner may have is of its sender
pub well_sent : (game : Game) (me : ℕ) (e : Entry) → is_well_formed game me e ≡ true → is_of_its_sender e ≡ true
well_sent game me (Chose t m n) w = refl
well_sent game me (Made f) w = refl
well_sent game me (Got q f) w = (and_parts (nat_lt q (players_of game) && not (q == me)) (player_of f == q) (and_parts (nat_lt (turn_of f) game.turns) (is_of_another game me q f) w).1).1

-- an entry that a feed gives is of its sender
pub fed_sent : (game : Game) (f : LogFeeding) (bytes : List ℕ) (e : Entry) → (fed_step game f bytes).fed.what ≡ Ok (Some e) → is_of_its_sender e ≡ true
fed_sent game f bytes e h = let w = fed_well game f bytes e h in well_sent game w.0 e w.1

-- entries behind entries
pub with_more : (logs : List (List Entry)) (i : ℕ) (es more : List Entry) → with_entries logs i (es ++ more) ≡ with_entries (with_entries logs i es) i more
with_more logs i [] more = refl
with_more logs i (e ∷ es) more = with_more (with_entry logs i e) i es more

pub takes_more : (a b c : AuditState) (log : ℕ) (es more : List Entry) → Takes a b log es → Takes b c log more → Takes a c log (es ++ more)
takes_more a b c log es more one two game logs w = subst (λ (x : List (List Entry)). IsAuditOf game x c) (sym (with_more logs log es more)) (two game (with_entries logs log es) (one game logs w))

pub behind_more : (es more : List Entry) (g h : LogGiven) → h ≡ given_behind more g → given_behind es h ≡ given_behind (es ++ more) g
behind_more es more g h e =
    let put : List Entry → LogGiven = λ xs. record { entries = xs; feeding = g.feeding } in
    ap (given_behind es) e ∙ ap put (sym (append_assoc es more g.entries))

-- the first entries, and one more
pub take_one_more : (es : List Entry) (i : ℕ) (d : Entry) → i < length es → take (i + 1) es ≡ take i es ++ get_or es i d ∷ []
take_one_more es i d lt = subst (λ (n : ℕ). take n es ≡ take i es ++ get_or es i d ∷ []) (let e : suc i ≡ i + 1 = omega arith in e) (take-suc es i d lt)

-- ---- entries that are read one behind the other

-- what was read first, and then what was read behind it
pub reads_more : (game : Game) (r r' r'' : Fed) (bytes rest left : List ℕ) (es more : List Entry) → ReadsOn game r r' bytes rest es → ReadsOn game r' r'' rest left more → ReadsOn game r r'' bytes left (es ++ more)
reads_more game r r' r'' bytes rest left es more one two f is =
    let first = one f is in
    let second = two first.0 first.1 in (
      second.0,
      second.1,
      first.2 ∙ behind_more es more (given_of game second.0 left) (given_of game first.0 rest) second.2,
    )

-- and so one entry more, where each of them is of its sender
pub all_more : (room : List Entry) (i : ℕ) (e : Entry) → i < length room → list_all is_of_its_sender (take i room) ≡ true → is_of_its_sender e ≡ true → list_all is_of_its_sender (take (i + 1) (set room i e)) ≡ true
all_more room i e lt all is =
    let more : list_all is_of_its_sender (take i room ++ e ∷ []) ≡ true = grind (arith, list_all-append is_of_its_sender (take i room) (e ∷ []), all, is) in
    subst (λ (es : List Entry). list_all is_of_its_sender es ≡ true) (sym (take_more_set room i e lt)) more

-- ---- entries that are taken

-- where a batch was read, and the first of its entries were taken, these are the first that the bytes give
pub front_of_read : (game : Game) (old now next : AuditState) (log : ℕ) (r r' : Fed) (f : LogFeeding) (bytes rest : List ℕ) (count many : ℕ) (es : List Entry) → IsFeedOf r f → count ≤ many → (count ≡ many → ReadsOn game r r' bytes rest es) →
    (count < many → ReadsAll game r r' bytes es) → Takes old now log [] → TakesFront now next log es → TakesSome game old next log bytes f
front_of_read game old now next log r r' f bytes rest count many es is fits full all none some =
    elim (cases_lt count many) [
      | inl few ↦ record {
        front = some.front;
        behind = some.behind;
        parts = (all few f is).0 ∙ some.parts;
        taken = λ g logs w. some.taken g logs (none g logs w);
      }
      | inr le ↦ let on = full (omega arith) f is in record {
        front = some.front;
        behind = some.behind ++ (given_of game on.0 rest).entries;
        parts = ap (λ (g : LogGiven). g.entries) on.2 ∙ ap (λ (xs : List Entry). xs ++ (given_of game on.0 rest).entries) some.parts ∙ append_assoc some.front some.behind (given_of game on.0 rest).entries;
        taken = λ g logs w. some.taken g logs (none g logs w);
      }
    ]

-- of all that the bytes give these were taken, and of what is left the first
pub takes_some : (game : Game) (old now next : AuditState) (log : ℕ) (bytes rest : List ℕ) (f g : LogFeeding) (es : List Entry) → given_of game f bytes ≡ given_behind es (given_of game g rest) → Takes old now log es →
    TakesSome game now next log rest g → TakesSome game old next log bytes f
takes_some game old now next log bytes rest f g es e one some = record {
  front = es ++ some.front;
  behind = some.behind;
  parts = ap (λ (x : LogGiven). x.entries) e ∙ ap (λ (xs : List Entry). es ++ xs) some.parts ∙ sym (append_assoc es some.front some.behind);
  taken = takes_more old now next log es some.front one some.taken;
}

-- of all that the bytes give these were taken, and of what is left all
pub takes_all : (game : Game) (old now next : AuditState) (log : ℕ) (r r' r'' : Fed) (bytes rest : List ℕ) (f g : LogFeeding) (es : List Entry) → given_of game f bytes ≡ given_behind es (given_of game g rest) → Takes old now log es →
    TakesAll game now next log r' r'' rest g → TakesAll game old next log r r'' bytes f
takes_all game old now next log r r' r'' bytes rest f g es e one all = record {
  feed = subst (λ (x : LogFeeding). IsFeedOf r'' x) (sym (ap (λ (x : LogGiven). x.feeding) e)) all.feed;
  taken = subst (λ (xs : List Entry). Takes old next log xs) (sym (ap (λ (x : LogGiven). x.entries) e)) (takes_more old now next log es (given_of game g rest).entries one all.taken);
}

-- so far these entries were taken, and what is left gives the rest
abbrev pub IsSoFar : Game → (old now : AuditState) → ℕ → Fed → (f : LogFeeding) → (bytes rest : List ℕ) → Type 0
IsSoFar game old now log r f bytes rest = (g : LogFeeding) × (es : List Entry) × IsFeedOf r g × (given_of game f bytes ≡ given_behind es (given_of game g rest)) × Takes old now log es

-- and so with those of a batch more
pub so_on : (game : Game) (old now next : AuditState) (log : ℕ) (r r' : Fed) (f : LogFeeding) (bytes piece : List ℕ) (at to : ℕ) → TakesOn game now next log r r' piece at (Some to) → IsSoFar game old now log r f bytes (drop at piece) →
    IsSoFar game old next log r' f bytes (drop to piece)
so_on game old now next log r r' f bytes piece at to takes so =
    let n = takes so.0 so.2 in (
      n.1,
      so.1 ++ n.0,
      n.2,
      so.3 ∙ behind_more so.1 n.0 (given_of game n.1 (drop to piece)) (given_of game so.0 (drop at piece)) n.3,
      takes_more old now next log so.1 n.0 so.4 n.4,
    )
