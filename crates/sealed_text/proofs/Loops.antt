-- Loops: frames and their seals are read one after the other, as a loop does.
use Rattle.std.proofs.Common.{◌≡◌, ℕ, suc, ◌+◌, ◌≤◌, ◌<◌, true, false, List, [], ◌∷◌, ◌++◌, length, Result, Ok, Err, refl, sym, ap, subst, ◌∙◌, length-append, append_assoc, arith, add-one}
use Rattle.std.proofs.lemmas.List.{append-nil}
use Rattle.definitions.specs.declared.frames.TurnFrame.{TurnFrame}
use Rattle.text_fields.specs.declared.fault.TextFault.{TextFault}
use Rattle.text_fields.specs.declared.fault.TextFault.TheVariants.{At, Memory}
use Rattle.text_fields.specs.Faults.{is_memory}
use Rattle.text_lines.specs.Answers.{Fails}
use Rattle.text_lines.specs.Reading.{◌>>=◌}
use Rattle.text_lines.proofs.Steps.{line_at_err, line_at_ok}
use Rattle.evidence.specs.Reading.{is_end}
use Rattle.sealed_text.specs.declared.limits.TheConstants.{MOST_SEALED_FRAMES}
use Rattle.sealed_text.specs.Reading.{frame_at, line_after, pairs_at, seal_at, seal_said}

-- frames with their seals, or the fault
abbrev pub Pairs : Type 0
Pairs = Result (List TurnFrame × List (List ℕ)) TextFault

-- what was read before, and what is still read
abbrev pub with_fronts : List TurnFrame → List (List ℕ) → Pairs → Pairs
with_fronts fs ss read = read >>= λ xs. Ok (fs ++ xs.0, ss ++ xs.1)

with_fronts-more : (fs : List TurnFrame) (ss : List (List ℕ)) (f : TurnFrame) (s : List ℕ) (read : Pairs)
    → with_fronts fs ss (read >>= λ xs. Ok (f ∷ xs.0, s ∷ xs.1)) ≡ with_fronts (fs ++ f ∷ []) (ss ++ s ∷ []) read
with_fronts-more fs ss f s (Ok xs) =
    ap (λ (gs : List TurnFrame). Ok (gs, ss ++ (s ∷ xs.1))) (sym (append_assoc fs (f ∷ []) xs.0))
    ∙ ap (λ (ts : List (List ℕ)). Ok ((fs ++ f ∷ []) ++ xs.0, ts)) (sym (append_assoc ss (s ∷ []) xs.1))
with_fronts-more fs ss f s (Err e) = refl

-- what holds in front of each line that may say a frame
pub record AtPair (n : ℕ) (fs : List TurnFrame) (ss lines : List (List ℕ)) (total : Pairs) : Type 0 where
  pub read : with_fronts fs ss (pairs_at n (length fs) lines) ≡ total
  pub few : length fs ≤ MOST_SEALED_FRAMES

pub pairs_more : (n : ℕ) (fs : List TurnFrame) (ss : List (List ℕ)) (line : List ℕ) (lines after rest : List (List ℕ)) (f : TurnFrame) (s : List ℕ) (total : Pairs)
    → lines ≡ line ∷ after → is_end (length fs) line ≡ false → frame_at (length fs) line ≡ Ok f → length fs < MOST_SEALED_FRAMES
    → seal_at n (length fs) after ≡ Ok (s, rest) → AtPair n fs ss lines total → AtPair n (fs ++ f ∷ []) (ss ++ s ∷ []) rest total
unfolding pairs_at
pairs_more n fs ss line lines after rest f s total split other read few seal at =
    let next = line_at_ok (At (suc (line_after (length fs)))) (seal_said n) after s rest seal in
    let both : lines ≡ line ∷ next.0 ∷ rest = split ∙ ap (λ (ls : List (List ℕ)). line ∷ ls) next.1 in
    let one : with_fronts fs ss (pairs_at n (length fs) lines) ≡ with_fronts (fs ++ f ∷ []) (ss ++ s ∷ []) (pairs_at n (suc (length fs)) rest) =
    rw (both, other, read, next.2) (with_fronts-more fs ss f s (pairs_at n (suc (length fs)) rest)) in
    let count : suc (length fs) ≡ length (fs ++ f ∷ []) = let l = length-append fs (f ∷ []) in omega arith in
    record {
      read = subst (λ (m : ℕ). with_fronts (fs ++ f ∷ []) (ss ++ s ∷ []) (pairs_at n m rest) ≡ total) count (sym one ∙ at.read);
      few = omega (arith, count);
    }

-- a line that says no frame, and one that says no seal

pub frame_bad : (n count : ℕ) (line : List ℕ) (after : List (List ℕ)) (m : ℕ) → is_end count line ≡ false → frame_at count line ≡ Err (At m) → pairs_at n count (line ∷ after) ≡ Err (At m)
unfolding pairs_at
frame_bad n count line [] m other h = rw (other, h) refl
frame_bad n count line (next ∷ after) m other h = rw (other, h) refl

pub seal_bad : (n count : ℕ) (line : List ℕ) (after : List (List ℕ)) (f : TurnFrame) (m : ℕ) → is_end count line ≡ false → frame_at count line ≡ Ok f → seal_at n count after ≡ Err (At m)
    → pairs_at n count (line ∷ after) ≡ Err (At m)
unfolding pairs_at
seal_bad n count line [] f m other read h =
    let bad = line_at_err (At (suc (line_after count))) (seal_said n) [] (At m) h in
    rw (other, read) (ap (λ (e : TextFault). Err e) bad.0)
seal_bad n count line (next ∷ after) f m other read h =
    let bad = line_at_err (At (suc (line_after count))) (seal_said n) (next ∷ after) (At m) h in
    rw (other, read, bad.1 next after refl) (ap (λ (e : TextFault). Err e) bad.0)

pub frame_fails : (n : ℕ) (e : TextFault) (fs : List TurnFrame) (ss : List (List ℕ)) (line : List ℕ) (lines after : List (List ℕ)) (total : Pairs)
    → lines ≡ line ∷ after → is_end (length fs) line ≡ false → Fails is_memory e (frame_at (length fs) line) → AtPair n fs ss lines total → Fails is_memory e total
frame_fails n Memory fs ss line lines after total split other h at = tt
frame_fails n (At m) fs ss line lines after total split other h at =
    let one : with_fronts fs ss (pairs_at n (length fs) lines) ≡ Err (At m) = rw (split, frame_bad n (length fs) line after m other h) refl in
    sym at.read ∙ one

pub seal_fails : (n : ℕ) (e : TextFault) (fs : List TurnFrame) (ss : List (List ℕ)) (line : List ℕ) (lines after : List (List ℕ)) (f : TurnFrame) (total : Pairs)
    → lines ≡ line ∷ after → is_end (length fs) line ≡ false → frame_at (length fs) line ≡ Ok f → Fails is_memory e (seal_at n (length fs) after) → AtPair n fs ss lines total
    → Fails is_memory e total
seal_fails n Memory fs ss line lines after f total split other read h at = tt
seal_fails n (At m) fs ss line lines after f total split other read h at =
    let one : with_fronts fs ss (pairs_at n (length fs) lines) ≡ Err (At m) = rw (split, seal_bad n (length fs) line after f m other read h) refl in
    sym at.read ∙ one

-- the end

pub pairs_end : (n : ℕ) (fs : List TurnFrame) (ss : List (List ℕ)) (line : List ℕ) (lines : List (List ℕ)) (total : Pairs)
    → lines ≡ line ∷ [] → is_end (length fs) line ≡ true → AtPair n fs ss lines total → total ≡ Ok (fs, ss)
unfolding pairs_at
pairs_end n fs ss line lines total split is at =
    let one : with_fronts fs ss (pairs_at n (length fs) lines) ≡ Ok (fs, ss) =
    rw (split, is) (ap (λ (gs : List TurnFrame). Ok (gs, ss ++ [])) (append-nil fs) ∙ ap (λ (ts : List (List ℕ)). Ok (fs, ts)) (append-nil ss)) in
    sym at.read ∙ one

pub pairs_past : (n : ℕ) (fs : List TurnFrame) (ss : List (List ℕ)) (line next : List ℕ) (lines after : List (List ℕ)) (total : Pairs)
    → lines ≡ line ∷ next ∷ after → is_end (length fs) line ≡ true → AtPair n fs ss lines total → total ≡ Err (At (line_after (length fs) + 1))
unfolding pairs_at
pairs_past n fs ss line next lines after total split is at =
    let one : with_fronts fs ss (pairs_at n (length fs) lines) ≡ Err (At (suc (line_after (length fs)))) = rw (split, is) refl in
    sym at.read ∙ one ∙ ap (λ (m : ℕ). Err (At m)) (sym (add-one (line_after (length fs))))

pub pairs_missing : (n : ℕ) (fs : List TurnFrame) (ss lines : List (List ℕ)) (total : Pairs) → lines ≡ [] → AtPair n fs ss lines total → total ≡ Err (At (line_after (length fs)))
unfolding pairs_at
pairs_missing n fs ss lines total none at =
    let one : with_fronts fs ss (pairs_at n (length fs) lines) ≡ Err (At (line_after (length fs))) = rw none refl in
    sym at.read ∙ one
