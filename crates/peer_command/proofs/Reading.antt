-- Reading: of a log without a lucky tail the first ones of the entries handed to `keep` are read, and all of which it has the bytes.
use Rattle.std.proofs.Common.{◌≡◌, inl, inr, ℕ, zero, suc, ◌+◌, ◌<◌, ◌≤◌, true, false, refl, sym, ap, subst, ◌∙◌, List, [], ◌∷◌, ◌++◌, arith, length, take, drop, length-append, append_assoc}
use Rattle.std.specs.Prelude.{Option, Some, None, Ok, ◌&&◌, IsTrue}
use Rattle.std.specs.Str.{bytes_eq}
use Rattle.std.proofs.lemmas.Bool.{cases_lt, cases_Bool}
use Rattle.std.proofs.lemmas.List.{drop_at, drop_all, drop-drop, length-drop}
use Rattle.std.proofs.lemmas.Slice.Eq.{bytes_eq-Decides}
use Rattle.definitions.specs.Lists.{EachIs}
use Rattle.definitions.specs.declared.logs.Entry.{Entry}
use Rattle.definitions.specs.Entries.{AreWellFormed, is_well_formed}
use Rattle.definitions.specs.World.{Game}
use Rattle.session_log.specs.Spelling.{entry_text, chained, entry_bytes, entries_bytes}
use Rattle.session_log.specs.Finding.{entry_at}
use Rattle.session_log.specs.Reading.{Ending, LogReading, Step, ReadLog, step_on, read_by}
use Rattle.session_log.proofs.Logs.{reading, further_is, end_is}
use Rattle.loop_rules.specs.Images.{entry_len, has_whole, is_chained, lucky_behind}
use Rattle.peer_command.proofs.Moves.{IsRead}
use Rattle.peer_command.proofs.Fronts.{on, Reads, is_front, step_passes, step_stops, lucky_passes, front_alike, no_front}

-- entries that may be read and that the session allows
abbrev pub AreRead : Game → ℕ → List Entry → Type 0
AreRead game me entries = EachIs IsRead entries × AreWellFormed game me entries

-- the entries synced were read, and more of those that were handed behind them
abbrev pub Reached : ReadLog → ℕ → (synced behind : List Entry) → Type 0
Reached l me synced behind = (more : List Entry) × (lost : List Entry) × (behind ≡ more ++ lost) × Reads l (synced ++ more) me

-- nothing more was read
none_reached : (l : ReadLog) (me : ℕ) (behind : List Entry) → Reads l [] me → Reached l me [] behind
none_reached l me behind r = ([], behind, refl, r)

-- the bytes from this place on are those of the entries synced and more, and no lucky tail
pub record Stops (game : Game) (log : List ℕ) (me at fuel : ℕ) (chain : List ℕ) (synced behind : List Entry) : Type 0 where
  pub read : AreRead game me (synced ++ behind)
  pub unlucky : lucky_behind fuel chain (entries_bytes chain (synced ++ behind)) (drop at log) ≡ false
  pub rest : List ℕ
  pub bytes_are : drop at log ≡ entries_bytes chain synced ++ rest

-- what is read of them
abbrev pub Walks : Game → List ℕ → (me most fuel : ℕ) → Type 0
Walks game log me most fuel = (at : ℕ) (chain : List ℕ) (synced behind : List Entry) → at ≤ length log → length log < at + most → length log ≤ at + fuel →
    Stops game log me at fuel chain synced behind → Reached (read_by game log most (reading me at chain)) me synced behind

-- the step that gives an entry
passes : (game : Game) (log : List ℕ) (me at most : ℕ) (chain : List ℕ) (e : Entry) (rest : List ℕ) (r : LogReading) (es : List Entry) → r.said ≡ None → IsRead e → IsTrue (is_well_formed game me e) →
    drop at log ≡ entry_bytes chain e ++ rest → Reads (read_by game log most (reading me (at + length (entry_bytes chain e)) (chained chain (entry_text e)))) es me →
    Reads (on game log most (step_on r me at (entry_at game me chain (drop at log)))) (e ∷ es) me
passes game log me at most chain e rest r es none h well bytes behind =
    let later : Option Ending → LogReading = λ said. record { owner = Some me; at = at + length (entry_bytes chain e); chain = chained chain (entry_text e); said = said } in
    let step : step_on r me at (entry_at game me chain (drop at log)) ≡ record { reader = later None; answer = Ok (Some e) }
    = ap (λ xs. step_on r me at (entry_at game me chain xs)) bytes ∙ step_passes game me at chain e rest r h well ∙ ap (λ (o : Option Ending). record { reader = later o; answer = Ok (Some e) }) none in
    subst (λ (l : ReadLog). Reads l (e ∷ es) me) (sym (ap (on game log most) step)) (ap (λ (xs : List Entry). e ∷ xs) behind.0, behind.1)

-- the step where an entry of both stands, and what is read behind it
onward : (game : Game) (log : List ℕ) (me at most fuel : ℕ) (chain : List ℕ) (e : Entry) (synced behind : List Entry) (rest : List ℕ) (r : LogReading) →
    r.said ≡ None → length log < at + suc most → length log ≤ at + suc fuel → AreRead game me (e ∷ (synced ++ behind)) →
    drop at log ≡ entry_bytes chain e ++ (entries_bytes (chained chain (entry_text e)) synced ++ rest) →
    lucky_behind (suc fuel) chain (entry_bytes chain e ++ entries_bytes (chained chain (entry_text e)) (synced ++ behind)) (drop at log) ≡ false → Walks game log me most fuel →
    Reached (on game log most (step_on r me at (entry_at game me chain (drop at log)))) me (e ∷ synced) behind
onward game log me at most fuel chain e synced behind rest r none few fuelled read bytes unlucky ih =
    let digest : List ℕ = chained chain (entry_text e) in
    let front : List ℕ = entry_bytes chain e in
    let back : List ℕ = entries_bytes digest synced ++ rest in
    let handed : List ℕ = entries_bytes digest (synced ++ behind) in
    let n : ℕ = length front in
    let some = (is_front chain e back read.0.0).long in
    let long : length (drop at log) ≡ n + length back = ap length bytes ∙ length-append front back in
    let left = length-drop at log in
    let there : drop (at + n) log ≡ back = sym (drop-drop n at log) ∙ ap (drop n) bytes ∙ drop_at front back n refl in
    let still : lucky_behind fuel digest handed (drop (at + n) log) ≡ false
    = ap (lucky_behind fuel digest handed) there ∙ sym (lucky_passes fuel chain e handed back read.0.0) ∙ ap (lucky_behind (suc fuel) chain (front ++ handed)) (sym bytes) ∙ unlucky in
    let more = ih (at + n) digest synced behind (omega arith) (omega arith) (omega arith) (record { read = (read.0.1, read.1.1); unlucky = still; rest = rest; bytes_are = there }) in
    (more.0, more.1, more.2, passes game log me at most chain e back r (synced ++ more.0) none read.0.0 read.1.0 bytes more.3)

-- the step where an entry handed has the bytes that stand there
alike : (game : Game) (log : List ℕ) (me at most fuel : ℕ) (chain : List ℕ) (behind : List Entry) (r : LogReading) →
    r.said ≡ None → length log < at + suc most → length log ≤ at + suc fuel → Stops game log me at (suc fuel) chain [] behind → has_whole (drop at log) ≡ true →
    take (entry_len (drop at log)) (drop at log) ≡ take (entry_len (drop at log)) (entries_bytes chain behind) → Walks game log me most fuel →
    Reached (on game log most (step_on r me at (entry_at game me chain (drop at log)))) me [] behind
alike game log me at most fuel chain [] r none few fuelled s whole same ih = absurd (no_front (drop at log) whole same)
alike game log me at most fuel chain (e ∷ behind) r none few fuelled s whole same ih =
    let bytes : List ℕ = drop at log in
    let here = front_alike chain e (entries_bytes (chained chain (entry_text e)) behind) bytes s.read.0.0 whole same in
    let more = onward game log me at most fuel chain e [] behind (drop (entry_len bytes) bytes) r none few fuelled s.read here s.unlucky ih in
    (e ∷ more.0, more.1, ap (λ (xs : List Entry). e ∷ xs) more.2, more.3)

pub walk_step : (game : Game) (log : List ℕ) (me at most fuel : ℕ) (chain : List ℕ) (synced behind : List Entry) (r : LogReading) →
    r.said ≡ None → length log < at + suc most → length log ≤ at + suc fuel → Stops game log me at (suc fuel) chain synced behind → Walks game log me most fuel →
    Reached (on game log most (step_on r me at (entry_at game me chain (drop at log)))) me synced behind
walk_step game log me at most fuel chain (e ∷ synced) behind r none few fuelled s ih =
    let digest : List ℕ = chained chain (entry_text e) in
    onward game log me at most fuel chain e synced behind s.rest r none few fuelled s.read (s.bytes_are ∙ append_assoc (entry_bytes chain e) (entries_bytes digest synced) s.rest) s.unlucky ih
walk_step game log me at most fuel chain [] behind r none few fuelled s ih =
    let bytes : List ℕ = drop at log in
    let n : ℕ = entry_len bytes in
    let handed : List ℕ = entries_bytes chain behind in
    let l : ReadLog = on game log most (step_on r me at (entry_at game me chain bytes)) in
    elim (cases_Bool (has_whole bytes)) [
      | inr none_whole ↦ none_reached l me behind (step_stops game log me at most chain bytes r (ap (λ b. b && is_chained chain bytes) none_whole))
      | inl whole ↦ elim (cases_Bool (bytes_eq (take n bytes) (take n handed))) [
        | inl same ↦ alike game log me at most fuel chain behind r none few fuelled s whole ((bytes_eq-Decides (take n bytes) (take n handed)).0 same) ih
        | inr differs ↦
            let unchained : is_chained chain bytes ≡ false = rw (whole, differs) at s.unlucky in
            none_reached l me behind (step_stops game log me at most chain bytes r (ap (λ b. b && is_chained chain bytes) whole ∙ unchained))
      ]
    ]

-- no byte stands there
walk_ends : (game : Game) (log : List ℕ) (me at most fuel : ℕ) (chain : List ℕ) (synced behind : List Entry) → length log ≤ at → Stops game log me at fuel chain synced behind →
    Reached (read_by game log (suc most) (reading me at chain)) me synced behind
walk_ends game log me at most fuel chain (e ∷ synced) behind le s =
    let digest : List ℕ = chained chain (entry_text e) in
    let back : List ℕ = entries_bytes digest synced ++ s.rest in
    let some = (is_front chain e back s.read.0.0).long in
    let none : length (entry_bytes chain e ++ back) ≡ 0
    = ap length (sym (append_assoc (entry_bytes chain e) (entries_bytes digest synced) s.rest) ∙ sym s.bytes_are ∙ drop_all at log le) in
    absurd (omega (arith, length-append (entry_bytes chain e) back))
walk_ends game log me at most fuel chain [] behind le s =
    none_reached (read_by game log (suc most) (reading me at chain)) me behind (subst (λ (t : Step). Reads (on game log most t) [] me) (sym (end_is game log me at chain le)) (refl, refl))

-- what is read from a place on
pub walks : (game : Game) (log : List ℕ) (me most fuel : ℕ) → Walks game log me most fuel
walks game log me zero fuel at chain synced behind within few fuelled s = absurd (omega arith)
walks game log me (suc most) zero at chain synced behind within few fuelled s = walk_ends game log me at most zero chain synced behind (omega arith) s
walks game log me (suc most) (suc fuel) at chain synced behind within few fuelled s = elim (cases_lt at (length log)) [
  | inr le ↦ walk_ends game log me at most (suc fuel) chain synced behind le s
  | inl lt ↦
      let step = further_is game log me at chain (entry_at game me chain (drop at log)) lt refl in
      subst (λ (t : Step). Reached (on game log most t) me synced behind) (sym step)
      (walk_step game log me at most fuel chain synced behind (reading me at chain) refl few fuelled s (walks game log me most fuel))
]
