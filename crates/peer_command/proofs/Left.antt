-- Left: what a peer finds in a log of which a crash left these bytes.
use Rattle.std.proofs.Common.{◌≡◌, inl, inr, ℕ, ◌<◌, Bool, true, false, cond, refl, sym, ap, subst, ◌∙◌, List, [], ◌∷◌, ◌++◌, arith, length, length-append, append_assoc}
use Rattle.std.specs.Prelude.{Option, Some, None, Err, not, ◌&&◌, ◌==◌, nat_lt}
use Rattle.std.proofs.lemmas.Bool.{cases_Bool, eqb-true, eq-eqb, lt-ltb}
use Rattle.definitions.specs.declared.logs.Entry.{Entry}
use Rattle.definitions.specs.World.{Game, players_of}
use Rattle.definitions.specs.declared.logs.LogWhy.TheVariants.{BadEntry}
use Rattle.session_log.specs.Spelling.{entry_text, chained, entry_bytes, entries_bytes, first_chain, log_bytes}
use Rattle.session_log.specs.Finding.{entry_at}
use Rattle.session_log.specs.Reading.{fault_at, log_at_start, owned, ended, step_on, step_behind, next_step, read_log}
use Rattle.loop_rules.specs.Images.{has_whole, is_chained, lucky_behind, lucky_from}
use Rattle.old_log.specs.Old.{old_owner, old_entries, is_anothers}
use Rattle.peer_command.proofs.Fronts.{on, Reads, is_front, step_stops}
use Rattle.peer_command.proofs.Reading.{AreRead, Reached, walk_step, walks}

-- the entries synced and more of those that were handed behind them, in a log that is the player's own
pub record Left (game : Game) (me : ℕ) (image : List ℕ) (synced behind : List Entry) : Type 0 where
  pub more : List Entry
  pub lost : List Entry
  pub handed : behind ≡ more ++ lost
  pub entries : old_entries game image ≡ synced ++ more
  pub own : is_anothers me (old_owner game image) (old_entries game image) ≡ false

and_false : (b : Bool) → (b && false) ≡ false
and_false true = refl
and_false false = refl

anothers_none : (me : ℕ) (o : Option ℕ) → is_anothers me o [] ≡ false
anothers_none me None = refl
anothers_none me (Some owner) = and_false (not (owner == me))

own_not_anothers : (me : ℕ) (entries : List Entry) → is_anothers me (Some me) entries ≡ false
own_not_anothers me entries = let same : (me == me) ≡ true = eq-eqb me me refl in rw same refl

left_none : (game : Game) (me : ℕ) (image : List ℕ) (behind : List Entry) → old_entries game image ≡ [] → Left game me image [] behind
left_none game me image behind e =
    record { more = []; lost = behind; handed = refl; entries = e; own = ap (is_anothers me (old_owner game image)) e ∙ anothers_none me (old_owner game image) }

left_own : (game : Game) (me : ℕ) (image : List ℕ) (synced behind : List Entry) → Reached (read_log game image) me synced behind → Left game me image synced behind
left_own game me image synced behind r = record {
  more = r.0;
  lost = r.1;
  handed = r.2;
  entries = r.3.0;
  own = ap (λ o. is_anothers me o (old_entries game image)) r.3.1 ∙ own_not_anothers me (old_entries game image);
}

none_of_nothing : (game : Game) → old_entries game [] ≡ []
unfolding read_log next_step
none_of_nothing game = refl

-- ---- the owner's byte

-- behind an owner's byte no whole entry is chained
nothing_by : (game : Game) (owner most : ℕ) (bytes : List ℕ) (b : Bool) → (has_whole bytes && is_chained (first_chain game.id owner) bytes) ≡ false →
    Reads (on game (owner ∷ bytes) most (cond b (step_behind game (log_at_start game.id) owner bytes) (ended (owned (log_at_start game.id) owner) (Err (fault_at 0 BadEntry))))) [] owner
nothing_by game owner most bytes false h = (refl, refl)
nothing_by game owner most [] true h = (refl, refl)
nothing_by game owner most (x ∷ bytes) true h = step_stops game (owner ∷ x ∷ bytes) owner 1 most (first_chain game.id owner) (x ∷ bytes) (log_at_start game.id) h

nothing_read : (game : Game) (owner : ℕ) (bytes : List ℕ) → (has_whole bytes && is_chained (first_chain game.id owner) bytes) ≡ false → Reads (read_log game (owner ∷ bytes)) [] owner
unfolding read_log next_step
nothing_read game owner bytes h = nothing_by game owner (length (owner ∷ bytes)) bytes (nat_lt owner (players_of game)) h

-- behind a player's byte the first entry is read
started : (game : Game) (me x : ℕ) (bytes : List ℕ) (synced behind : List Entry) → me < players_of game → let log : List ℕ = me ∷ x ∷ bytes in
    Reached (on game log (length log) (step_on (log_at_start game.id) me 1 (entry_at game me (first_chain game.id me) (x ∷ bytes)))) me synced behind → Reached (read_log game log) me synced behind
unfolding read_log next_step
started game me x bytes synced behind known r =
    let log : List ℕ = me ∷ x ∷ bytes in
    let start = log_at_start game.id in
    subst (λ (b : Bool). Reached (on game log (length log) (cond b (step_behind game start me (x ∷ bytes)) (ended (owned start me) (Err (fault_at 0 BadEntry))))) me synced behind)
    (sym (lt-ltb me (players_of game) known)) r

-- ---- all bytes that were left

left_behind : (game : Game) (me : ℕ) (bytes : List ℕ) (synced behind : List Entry) (rest : List ℕ) → me < players_of game → AreRead game me (synced ++ behind) →
    bytes ≡ entries_bytes (first_chain game.id me) synced ++ rest →
    lucky_behind (length bytes) (first_chain game.id me) (entries_bytes (first_chain game.id me) (synced ++ behind)) bytes ≡ false → Left game me (me ∷ bytes) synced behind
left_behind game me [] [] behind rest known read bytes unlucky = left_none game me (me ∷ []) behind (nothing_read game me [] refl).0
left_behind game me [] (e ∷ synced) behind rest known read bytes unlucky =
    let chain : List ℕ = first_chain game.id me in
    let back : List ℕ = entries_bytes (chained chain (entry_text e)) synced ++ rest in
    let some = (is_front chain e back read.0.0).long in
    let none : 0 ≡ length (entry_bytes chain e ++ back) = ap length (bytes ∙ append_assoc (entry_bytes chain e) (entries_bytes (chained chain (entry_text e)) synced) rest) in
    absurd (omega (arith, length-append (entry_bytes chain e) back))
left_behind game me (x ∷ bytes) synced behind rest known read is unlucky =
    let log : List ℕ = me ∷ x ∷ bytes in
    left_own game me log synced behind (started game me x bytes synced behind known
    (walk_step game log me 1 (length log) (length bytes) (first_chain game.id me) synced behind (log_at_start game.id) refl (omega arith) (omega arith)
    (record { read = read; unlucky = unlucky; rest = rest; bytes_are = is }) (walks game log me (length log) (length bytes))))

-- of an image without a lucky tail
pub left : (game : Game) (me : ℕ) (synced behind : List Entry) (image rest : List ℕ) → me < players_of game → AreRead game me (synced ++ behind) →
    image ≡ log_bytes game.id me synced ++ rest → lucky_from game.id (log_bytes game.id me (synced ++ behind)) image ≡ false → Left game me image synced behind
left game me [] [] [] rest known read is unlucky = left_none game me [] [] (none_of_nothing game)
left game me [] [] (b ∷ bytes) rest known read is unlucky = left_none game me (b ∷ bytes) [] (nothing_read game b bytes unlucky).0
left game me [] (e ∷ behind) [] rest known read is unlucky = left_none game me [] (e ∷ behind) (none_of_nothing game)
left game me [] (e ∷ behind) (b ∷ bytes) rest known read is unlucky = elim (cases_Bool (me == b)) [
  | inl same ↦
      let own : me ≡ b = eqb-true me b same in
      let handed : List ℕ = entries_bytes (first_chain game.id me) (e ∷ behind) in
      let begun = rw same at unlucky in
      let here = subst (λ (o : ℕ). lucky_behind (length bytes) (first_chain game.id o) handed bytes ≡ false) (sym own) begun in
      subst (λ (o : ℕ). Left game me (o ∷ bytes) [] (e ∷ behind)) own (left_behind game me bytes [] (e ∷ behind) bytes known read refl here)
  | inr other ↦ left_none game me (b ∷ bytes) (e ∷ behind) (nothing_read game b bytes (rw other at unlucky)).0
]
left game me (e ∷ synced) behind [] rest known read is unlucky = absurd (cc)
left game me (e ∷ synced) behind (b ∷ bytes) rest known read is unlucky =
    let own : b ≡ me = cc in
    let bytes_are : bytes ≡ entries_bytes (first_chain game.id me) (e ∷ synced) ++ rest = cc in
    let same : (me == me) ≡ true = eq-eqb me me refl in
    let begun = subst (λ (o : ℕ). lucky_from game.id (log_bytes game.id me ((e ∷ synced) ++ behind)) (o ∷ bytes) ≡ false) own unlucky in
    subst (λ (o : ℕ). Left game me (o ∷ bytes) (e ∷ synced) behind) (sym own)
    (left_behind game me bytes (e ∷ synced) behind rest known read bytes_are (rw same at begun))
