-- Scripts: a moves text is read line by line, as a loop does, and what is read is what is spelled.
use Rattle.std.proofs.Common.{◌≡◌, ℕ, zero, suc, ◌+◌, ◌-◌, ◌≤◌, ◌<◌, List, [], ◌∷◌, ◌++◌, length, map, Result, Ok, Err, refl, sym, ap, subst, ◌∙◌, arith}
use Rattle.std.specs.Prelude.{IfOk}
use Rattle.std.proofs.lemmas.List.{append-nil}
use Rattle.definitions.specs.declared.world.Move.{Move}
use Rattle.definitions.specs.Lists.{EachIs}
use Rattle.text_lines.specs.Lines.{ended_lines_of, joined}
use Rattle.text_lines.specs.Reading.{line_at}
use Rattle.text_lines.specs.Answers.{Fails, Faults, Gives, IsRead}
use Rattle.text_lines.proofs.Answers.{faults, is_found, is_read}
use Rattle.text_lines.proofs.Joined.{AreLines, ended_lines_of-joined, joined-ended_lines_of}
use Rattle.text_lines.proofs.Steps.{bind_ok, line_at_ok, none_behind, ok_is, with_front, with_front-more}
use Rattle.text_fields.specs.declared.fault.TextFault.{TextFault}
use Rattle.text_fields.specs.declared.fault.TextFault.TheVariants.{At, Memory}
use Rattle.text_fields.specs.Faults.{is_memory}
use Rattle.text_fields.proofs.Faults.{only_memory}
use Rattle.pilots.specs.Scripts.{FitsMove, IsReadFrom, move_line, move_said, moves_at, moves_text, script_at, script_fault}
use Rattle.pilots.proofs.MoveLines.{move_is_line, move_spelled, move_taken}

-- ---- one line after the other

pub moves_more : (front : List Move) (k q : ℕ) (lines : List (List ℕ)) (mv : Move) (after : List (List ℕ)) (total : Result (List Move) TextFault)
    → q < k → line_at (At (q + 1)) move_said lines ≡ Ok (mv, after)
    → with_front front (moves_at (k - q) (q + 1) lines) ≡ total → with_front (front ++ mv ∷ []) (moves_at (k - (q + 1)) (q + 1 + 1) after) ≡ total
unfolding moves_at
moves_more front k q lines mv after total lt h so_far =
    let m : k - q ≡ suc (k - (q + 1)) = omega arith in
    let next : q + 1 + 1 ≡ suc (q + 1) = omega arith in
    let one : with_front front (moves_at (k - q) (q + 1) lines) ≡ with_front (front ++ mv ∷ []) (moves_at (k - (q + 1)) (suc (q + 1)) after) =
    rw (m, h) (with_front-more front mv (moves_at (k - (q + 1)) (suc (q + 1)) after)) in
    subst (λ (r : ℕ). with_front (front ++ mv ∷ []) (moves_at (k - (q + 1)) r after) ≡ total) (sym next) (sym one ∙ so_far)

pub moves_fail : (e : TextFault) (front : List Move) (k q : ℕ) (lines : List (List ℕ)) (total : Result (List Move) TextFault)
    → q < k → line_at (At (q + 1)) move_said lines ≡ Err e → with_front front (moves_at (k - q) (q + 1) lines) ≡ total → Fails is_memory e total
unfolding moves_at
moves_fail Memory front k q lines total lt h so_far = tt
moves_fail (At n) front k q lines total lt h so_far =
    let m : k - q ≡ suc (k - (q + 1)) = omega arith in
    let one : with_front front (moves_at (k - q) (q + 1) lines) ≡ Err (At n) = rw (m, h) refl in
    sym so_far ∙ one

pub moves_all : (front : List Move) (k q : ℕ) (lines : List (List ℕ)) (total : Result (List Move) TextFault)
    → k ≤ q → lines ≡ [] → with_front front (moves_at (k - q) (q + 1) lines) ≡ total → total ≡ Ok front
unfolding moves_at
moves_all front k q lines total le none so_far =
    let m : k - q ≡ 0 = omega arith in
    let one : with_front front (moves_at (k - q) (q + 1) lines) ≡ Ok front = rw (m, none) (ap (λ (moves : List Move). Ok moves) (append-nil front)) in
    sym so_far ∙ one

pub moves_past : (front : List Move) (k q : ℕ) (line : List ℕ) (lines after : List (List ℕ)) (total : Result (List Move) TextFault)
    → k ≡ q → lines ≡ line ∷ after → with_front front (moves_at (k - q) (q + 1) lines) ≡ total → total ≡ Err (At (k + 1))
unfolding moves_at
moves_past front k q line lines after total le some so_far =
    let m : k - q ≡ 0 = omega arith in
    let one : with_front front (moves_at (k - q) (q + 1) lines) ≡ Err (At (q + 1)) = rw (m, some) refl in
    sym so_far ∙ one ∙ ap (λ n. Err (At (n + 1))) (sym le)

-- ---- what is spelled is read

moves_again : (moves : List Move) (n : ℕ) → EachIs FitsMove moves → moves_at (length moves) n (map move_line moves) ≡ Ok moves
unfolding moves_at
moves_again [] n fits = refl
moves_again (mv ∷ moves) n fits = rw (move_spelled mv fits.0, moves_again moves (suc n) fits.1) refl

are_lines : (moves : List Move) → EachIs FitsMove moves → AreLines (map move_line moves)
are_lines [] fits = tt
are_lines (mv ∷ moves) fits = (move_is_line mv fits.0, are_lines moves fits.1)

pub script_again : (turns : ℕ) (text : List ℕ) (moves : List Move) → IsReadFrom turns moves text → script_at turns text ≡ Ok moves
unfolding moves_text
script_again turns text moves from =
    ap (λ (t : List ℕ). script_at turns t) from.text_is ∙ ap (moves_at turns 1) (ended_lines_of-joined (map move_line moves) (are_lines moves from.fits))
    ∙ ap (λ (k : ℕ). moves_at k 1 (map move_line moves)) (sym from.count) ∙ moves_again moves 1 from.fits

-- ---- what is read was spelled so

-- these lines are those of moves that fit, so many
record AreTaken (turns : ℕ) (lines : List (List ℕ)) (moves : List Move) : Type 0 where
  count : length moves ≡ turns
  fits : EachIs FitsMove moves
  spelled : lines ≡ map move_line moves

moves_take : (k n : ℕ) (lines : List (List ℕ)) (moves : List Move) → moves_at k n lines ≡ Ok moves → AreTaken k lines moves
unfolding moves_at
moves_take zero n lines moves e =
    let none = none_behind (At n) lines moves e in
    subst (AreTaken 0 lines) none.1 (record { count = refl; fits = tt; spelled = none.0 })
moves_take (suc k) n lines moves e =
    let a = bind_ok (line_at (At n) move_said lines) _ moves e in
    let b = bind_ok (moves_at k (suc n) a.0.1) _ moves a.2 in
    let line = line_at_ok (At n) move_said lines a.0.0 a.0.1 a.1 in
    let taken = move_taken line.0 a.0.0 line.2 in
    let others = moves_take k (suc n) a.0.1 b.0 b.1 in
    subst (AreTaken (suc k) lines) (ok_is {E = TextFault} (a.0.0 ∷ b.0) moves b.2) (record {
      count = ap suc others.count;
      fits = (taken.1, others.fits);
      spelled = line.1 ∙ ap (λ (l : List ℕ). l ∷ a.0.1) taken.0 ∙ ap (λ (ls : List (List ℕ)). move_line a.0.0 ∷ ls) others.spelled;
    })

pub script_found : (turns : ℕ) (text : List ℕ) (moves : List Move) → script_at turns text ≡ Ok moves → IsReadFrom turns moves text
unfolding moves_text
script_found turns text moves e =
    let taken = moves_take turns 1 (ended_lines_of text) moves e in
    record { count = taken.count; fits = taken.fits; text_is = sym (joined-ended_lines_of text) ∙ ap joined taken.spelled }

-- ---- what the reader answers

pub found_in : (turns : ℕ) (text : List ℕ) (r : Result (List Move) TextFault) → Gives is_memory (λ x. x) r (script_at turns text) → IfOk r (λ moves. IsReadFrom turns moves text)
found_in turns text r given = is_found is_memory (λ moves. IsReadFrom turns moves text) r (script_at turns text) (script_found turns text) given

pub read_of : (turns : ℕ) (text : List ℕ) (r : Result (List Move) TextFault) (moves : List Move) → Gives is_memory (λ x. x) r (script_at turns text) → IsReadFrom turns moves text → IsRead Memory moves r
read_of turns text r moves given from = is_read is_memory Memory r (script_at turns text) moves only_memory given (script_again turns text moves from)

pub faults_of : (turns : ℕ) (text : List ℕ) (r : Result (List Move) TextFault) → Gives is_memory (λ x. x) r (script_at turns text) → Faults is_memory r (script_fault turns text)
faults_of turns text r given = faults is_memory r (script_at turns text) given
