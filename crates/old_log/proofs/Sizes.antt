-- Sizes: how many bytes the entries of a log have.
use Rattle.std.proofs.Common.{◌≡◌, ◌⊎◌, inl, inr, ℕ, zero, suc, ◌+◌, ◌≤◌, ◌<◌, List, [], ◌∷◌, ◌++◌, length, take, drop, refl, sym, ◌∙◌, ap, subst, arith, length-append}
use Rattle.definitions.specs.declared.logs.Entry.{Entry}
use Rattle.definitions.specs.declared.logs.LogWhy.{LogWhy}
use Rattle.definitions.specs.declared.logs.LogWhy.TheVariants.{TooLong, Torn, BadChain, BadEntry, NotReplayed}
use Rattle.definitions.specs.World.{Game}
use Rattle.session_log.specs.Spelling.{chained, entries_bytes, entry_bytes, entry_text, first_chain, log_bytes}
use Rattle.session_log.specs.Writing.{Writing, all_written, fresh}
use Rattle.session_log.specs.Laws.{AreBytes, EndsSo, IsFaultAt, IsLogOf}
use Rattle.session_log.specs.Reading.{Ending}
use Rattle.std.specs.Prelude.{Ok, Err}
use Rattle.session_log.proofs.Found.{length-sha256}
use Rattle.session_log.proofs.Logs.{log_ends, log_written}
use Rattle.old_log.specs.Old.{old_entries}
use Rattle.definitions.specs.declared.limits.TheConstants.{LONGEST_LOG}

-- how many bytes the entries have, whatever they are chained to
abbrev sizes : List Entry → ℕ
sizes [] = 0
sizes (e ∷ es) = (length (entry_text e) + 32) + sizes es

length-entries_bytes : (chain : List ℕ) (es : List Entry) → length (entries_bytes chain es) ≡ sizes es
length-entries_bytes chain [] = refl
length-entries_bytes chain (e ∷ es) =
    let ih = length-entries_bytes (chained chain (entry_text e)) es in
    let digest = length-sha256 (chain ++ entry_text e) in
    let one = length-append (entry_text e) (chained chain (entry_text e)) in
    let all = length-append (entry_bytes chain e) (entries_bytes (chained chain (entry_text e)) es) in
    omega arith

sizes-take : (n : ℕ) (es : List Entry) → sizes (take n es) ≤ sizes es
sizes-take zero es = omega arith
sizes-take (suc n) [] = omega arith
sizes-take (suc n) (e ∷ es) = let ih = sizes-take n es in omega arith

length-log_bytes : (id : List ℕ) (owner : ℕ) (es : List Entry) → length (log_bytes id owner es) ≤ 1 + sizes es
length-log_bytes id owner [] = omega arith
length-log_bytes id owner (e ∷ es) = let l = length-entries_bytes (first_chain id owner) (e ∷ es) in omega arith

-- ---- the entries that are read have no more bytes than the log

no_more_by : (id bytes : List ℕ) (me : ℕ) (es : List Entry) (rest : List ℕ) → bytes ≡ me ∷ (entries_bytes (first_chain id me) es ++ rest) → 1 + sizes es ≤ length bytes
no_more_by id bytes me es rest e =
    let l = length-entries_bytes (first_chain id me) es in
    let n = ap length e in
    let m = length-append (entries_bytes (first_chain id me) es) rest in
    omega arith

no_more_then : (game : Game) (bytes : List ℕ) (es : List Entry) (at : ℕ) (why : LogWhy) → IsFaultAt game bytes es at why → (es ≡ []) ⊎ (1 + sizes es ≤ length bytes)
no_more_then game bytes es at TooLong h = absurd h
no_more_then game bytes es at Torn h = elim h [ inl s ↦ inr (no_more_by game.id bytes s.me es s.rest s.bytes_are) | inr a ↦ inl a.3 ]
no_more_then game bytes es at BadChain h = inr (no_more_by game.id bytes h.me es h.rest h.bytes_are)
no_more_then game bytes es at BadEntry h = elim h [ inl s ↦ inr (no_more_by game.id bytes s.me es s.rest s.bytes_are) | inr a ↦ inl a.4 ]
no_more_then game bytes es at NotReplayed h = absurd h

no_more : (game : Game) (bytes : List ℕ) (es : List Entry) (last : Ending) → EndsSo game bytes es last → (es ≡ []) ⊎ (1 + sizes es ≤ length bytes)
no_more game bytes es (Ok whole) h = of_log es h
  where
    of_log : (es : List Entry) → IsLogOf game bytes es → (es ≡ []) ⊎ (1 + sizes es ≤ length bytes)
    of_log [] h = inl refl
    of_log (e ∷ es) h =
        let l = length-entries_bytes (first_chain game.id h.me) (e ∷ es) in
        let n = ap length h.bytes_are in
        inr (omega arith)
no_more game bytes es (Err fault) h = no_more_then game bytes es fault.at fault.why h

-- the log of the entries before one that was read isn't too long
pub front_fits : (game : Game) (me i : ℕ) (bytes : List ℕ) (es : List Entry) → AreBytes bytes → length bytes ≤ LONGEST_LOG → es ≡ old_entries game bytes → i < length es →
    length (log_bytes game.id me (take i es)) ≤ LONGEST_LOG
front_fits game me i bytes es are le e lt =
    let ends = log_ends game bytes are in
    let Ends : List Entry → Type 0 = λ l. EndsSo game bytes l ends.0 in
    let front = length-log_bytes game.id me (take i es) in
    let part = sizes-take i es in
    elim (no_more game bytes es ends.0 (subst Ends (sym e) ends.2)) [
      | inl none ↦ absurd (let n = ap length none in omega arith)
      | inr few ↦ omega arith
    ]

-- ---- a log that is written

-- nothing is written yet, and all of the entries is still to be
pub none_written : (id : List ℕ) (owner : ℕ) (w : Writing) (es : List Entry) → w ≡ fresh id owner → length (all_written w (drop 0 es)) ≡ length (log_bytes id owner es)
none_written id owner w es f = ap (λ (v : Writing). length (all_written v es)) f ∙ ap length (log_written id owner es)
