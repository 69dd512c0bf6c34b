-- Taken: roots are read from their lines, and the lines of roots that are read are their own.
use Rattle.std.proofs.Common.{◌≡◌, ℕ, zero, suc, ◌+◌, ◌≤◌, Bool, true, false, List, [], ◌∷◌, ◌++◌, length, length-append, Result, Ok, Err, refl, sym, ap, subst, ◌∙◌, append_assoc, arith}
use Rattle.std.specs.Prelude.{IfOk, codes}
use Rattle.std.specs.Cmp.Lexicographic.{same_text}
use Rattle.plain_lemmas.proofs.Each.{each_append}
use Rattle.definitions.specs.declared.limits.TheConstants.{MOST_PLAYERS}
use Rattle.definitions.specs.Lists.{EachIs}
use Rattle.text_lines.specs.Lines.{ended_lines_of, is_bare, line_of, joined, one_within}
use Rattle.text_lines.specs.Reading.{line_at}
use Rattle.text_lines.specs.Answers.{Gives, IsRead}
use Rattle.text_lines.proofs.Answers.{is_found, is_read}
use Rattle.text_lines.proofs.Forms.{one_within-some, one_within-spelled}
use Rattle.text_lines.proofs.Joined.{AreLines, bare_line, ended_lines_of-joined, joined-ended_lines_of, one_line}
use Rattle.text_lines.proofs.Steps.{bind_ok, line_at_ok, none_behind, ok_is}
use Rattle.text_fields.specs.declared.fault.TextFault.{TextFault}
use Rattle.text_fields.specs.declared.fault.TextFault.TheVariants.{At, Memory}
use Rattle.text_fields.specs.Faults.{is_memory}
use Rattle.text_fields.proofs.Faults.{only_memory}
use Rattle.roots.specs.Text.{AreRootsOf, FitsRoot, IsReadFrom, end_line, root_line, root_lines, roots_lines, roots_text, version_line}
use Rattle.roots.specs.Reading.{end_at, first_roots, line_number, root_at, root_said, roots_at, said_by, with_root}
use Rattle.roots.proofs.Lines.{root_read, root_taken}
use Rattle.roots.proofs.Plain.{root_is_line}
use Rattle.roots.proofs.Steps.{first_suc}

-- ---- lists that end with one item more

root_lines-append : (q : ℕ) (front : List (List ℕ)) (root : List ℕ) → root_lines q (front ++ (root ∷ [])) ≡ root_lines q front ++ (root_line (q + length front) root ∷ [])
root_lines-append q [] root = let z : q ≡ q + 0 = omega arith in ap (λ n. root_line n root ∷ []) z
root_lines-append q (x ∷ front) root =
    let z : suc q + length front ≡ q + suc (length front) = omega arith in
    ap (λ (t : List (List ℕ)). root_line q x ∷ t) (root_lines-append (suc q) front root ∙ ap (λ n. root_lines (suc q) front ++ (root_line n root ∷ [])) z)

-- the lines of one root more, which is that of player q
lines_more : (q : ℕ) (front : List (List ℕ)) (root : List ℕ) (rest : List (List ℕ)) → length front ≡ q → root_lines 0 (front ++ (root ∷ [])) ++ rest ≡ root_lines 0 front ++ (root_line q root ∷ rest)
lines_more q front root rest count =
    let z : 0 + length front ≡ q = omega (arith, count) in
    ap (λ (t : List (List ℕ)). t ++ rest) (root_lines-append 0 front root) ∙ append_assoc (root_lines 0 front) (root_line (0 + length front) root ∷ []) rest ∙ ap (λ n. root_lines 0 front ++ (root_line n root ∷ rest)) z

last_of : (xs : List (List ℕ)) (q : ℕ) → length xs ≡ suc q → (front : List (List ℕ)) × (x : List ℕ) × (xs ≡ front ++ (x ∷ [])) × (length front ≡ q)
last_of [] q e = absurd (omega (arith, e))
last_of (x ∷ []) zero e = ([], x, refl, refl)
last_of (x ∷ []) (suc q) e = absurd (omega (arith, e))
last_of (x ∷ y ∷ xs) zero e = absurd (omega (arith, e))
last_of (x ∷ y ∷ xs) (suc q) e =
    let found = last_of (y ∷ xs) q (omega (arith, e)) in
    (x ∷ found.0, found.1, ap (λ (t : List (List ℕ)). x ∷ t) found.2, omega (arith, found.3))

each_front : (P : List ℕ → Type 0) (xs ys : List (List ℕ)) → EachIs P (xs ++ ys) → EachIs P xs × EachIs P ys
each_front P [] ys each = (tt, each)
each_front P (x ∷ xs) ys each = let parts = each_front P xs ys each.1 in ((each.0, parts.0), parts.1)

-- ---- what is spelled is read

with_one : (q : ℕ) (roots : List (List ℕ)) (root : List ℕ) (rest : List (List ℕ)) → q ≤ 255 → FitsRoot root → with_root q roots (root_line q root ∷ rest) ≡ Ok (roots ++ (root ∷ []), rest)
unfolding with_root
with_one q roots root rest small fits = rw (root_read q root small fits) refl

-- so many roots are read from their lines, whatever lines follow
first_again : (k : ℕ) (roots rest : List (List ℕ)) → k ≤ 256 → length roots ≡ k → EachIs FitsRoot roots → first_roots k (root_lines 0 roots ++ rest) ≡ Ok (roots, rest)
unfolding first_roots
first_again zero [] rest few count fits = refl
first_again zero (root ∷ roots) rest few count fits = absurd (omega (arith, count))
first_again (suc q) roots rest few count fits =
    let last = last_of roots q count in
    let front = last.0 in
    let root = last.1 in
    let each = each_front FitsRoot front (root ∷ []) (subst (EachIs FitsRoot) last.2 fits) in
    let P : List (List ℕ) → Type 0 = λ rs. first_roots (suc q) (root_lines 0 rs ++ rest) ≡ Ok (rs, rest) in
    let lines : List (List ℕ) = root_lines 0 front ++ (root_line q root ∷ rest) in
    let before = first_again q front (root_line q root ∷ rest) (omega arith) last.3 each.0 in
    let one : first_roots (suc q) lines ≡ Ok (front ++ (root ∷ []), rest) = first_suc q lines front (root_line q root ∷ rest) before ∙ with_one q front root rest (omega arith) each.1.0 in
    subst P (sym last.2) (ap (first_roots (suc q)) (lines_more q front root rest last.3) ∙ one)

said_again : (players : ℕ) (roots : List (List ℕ)) → players ≤ 256 → AreRootsOf players roots → said_by players (roots_lines roots) ≡ Ok roots
unfolding said_by end_at
said_again players roots few are =
    rw (one_within-spelled (codes "roots") 1 1 1 (omega arith) (omega arith) (omega arith), first_again players roots (end_line ∷ []) few are.count are.fits) refl

-- ---- what is read was spelled so

-- these lines are those of so many roots that fit, and the rest
record AreTaken (k : ℕ) (lines roots rest : List (List ℕ)) : Type 0 where
  count : length roots ≡ k
  fits : EachIs FitsRoot roots
  spelled : lines ≡ root_lines 0 roots ++ rest

abbrev TakesRoots : (k : ℕ) → List (List ℕ) → List (List ℕ) × List (List ℕ) → Type 0
TakesRoots k lines x = AreTaken k lines x.0 x.1

with_takes : (q : ℕ) (lines roots mid : List (List ℕ)) (x : List (List ℕ) × List (List ℕ)) → AreTaken q lines roots mid → with_root q roots mid ≡ Ok x → TakesRoots (suc q) lines x
unfolding with_root
with_takes q lines roots mid x before e =
    let a = bind_ok (root_at q mid) _ x e in
    let root = a.0.0 in
    let rest = a.0.1 in
    let line = line_at_ok (At (line_number q)) (root_said q) mid root rest a.1 in
    let taken = root_taken q line.0 root line.2 in
    let long = length-append roots (root ∷ []) in
    let here : mid ≡ root_line q root ∷ rest = line.1 ∙ ap (λ (l : List ℕ). l ∷ rest) taken.0 in
    let spelled : lines ≡ root_lines 0 (roots ++ (root ∷ [])) ++ rest =
    before.spelled ∙ ap (λ (ls : List (List ℕ)). root_lines 0 roots ++ ls) here ∙ sym (lines_more q roots root rest before.count) in
    subst (TakesRoots (suc q) lines) (ok_is {E = TextFault} (roots ++ (root ∷ []), rest) x a.2) (record {
      count = omega (arith, long, before.count);
      fits = each_append FitsRoot roots (root ∷ []) before.fits (taken.1, tt);
      spelled = spelled;
    })

first_takes : (k : ℕ) (lines : List (List ℕ)) (x : List (List ℕ) × List (List ℕ)) → first_roots k lines ≡ Ok x → TakesRoots k lines x
unfolding first_roots
first_takes zero lines x e = subst (TakesRoots 0 lines) (ok_is {E = TextFault} ([], lines) x e) (record { count = refl; fits = tt; spelled = refl })
first_takes (suc q) lines x e =
    let a = bind_ok (first_roots q lines) _ x e in
    with_takes q lines a.0.0 a.0.1 x (first_takes q lines a.0 a.1) a.2

end_takes : (n : ℕ) (lines : List (List ℕ)) (xs : List ℕ) → end_at n lines ≡ Ok xs → lines ≡ end_line ∷ []
unfolding end_at
end_takes n [] xs e = absurd cc
end_takes n (line ∷ lines) xs e = by_end (is_bare (codes "end") line) refl
  where
    by_end : (b : Bool) → is_bare (codes "end") line ≡ b → line ∷ lines ≡ end_line ∷ []
    by_end true is =
        let none = none_behind (At (suc n)) lines xs (sym (rw is refl) ∙ e) in
        ap (λ (ls : List (List ℕ)). line ∷ ls) none.0 ∙ ap (λ (l : List ℕ). l ∷ []) (same_text line end_line (sym is))
    by_end false is = let bad : end_at n (line ∷ lines) ≡ Err (At n) = rw is refl in let h = sym bad ∙ e in absurd cc

said_found : (players : ℕ) (lines roots : List (List ℕ)) → said_by players lines ≡ Ok roots → AreRootsOf players roots × (lines ≡ roots_lines roots)
unfolding said_by
said_found players lines roots e =
    let v = bind_ok (line_at (At 1) (one_within (codes "roots") 1 1) lines) _ roots e in
    let rs = bind_ok (first_roots players v.0.1) _ roots v.2 in
    let end = bind_ok (end_at (line_number players) rs.0.1) _ roots rs.2 in
    let version = line_at_ok (At 1) (one_within (codes "roots") 1 1) lines v.0.0 v.0.1 v.1 in
    let number = one_within-some (codes "roots") 1 1 version.0 v.0.0 version.2 in
    let one : v.0.0 ≡ 1 = omega (arith, number.1, number.2) in
    let taken = first_takes players v.0.1 rs.0 rs.1 in
    let last = end_takes (line_number players) rs.0.1 end.0 end.1 in
    let made = rs.0.0 in
    let head : lines ≡ version_line ∷ v.0.1 = version.1 ∙ ap (λ (l : List ℕ). l ∷ v.0.1) (number.0 ∙ ap (λ n. line_of (codes "roots") (n ∷ [])) one) in
    let second : v.0.1 ≡ root_lines 0 made ++ (end_line ∷ []) = taken.spelled ∙ ap (λ (t : List (List ℕ)). root_lines 0 made ++ t) last in
    let whole : lines ≡ roots_lines made = head ∙ ap (λ (t : List (List ℕ)). version_line ∷ t) second in
    subst (λ (rs : List (List ℕ)). AreRootsOf players rs × (lines ≡ roots_lines rs)) (ok_is {E = TextFault} made roots end.2) (record { count = taken.count; fits = taken.fits }, whole)

-- ---- whole texts

root_lines_are_lines : (q : ℕ) (roots : List (List ℕ)) → q + length roots ≤ 256 → EachIs FitsRoot roots → AreLines (root_lines q roots ++ (end_line ∷ []))
root_lines_are_lines q [] few fits = (bare_line (codes "end") refl, tt)
root_lines_are_lines q (root ∷ roots) few fits = (root_is_line q root (omega arith) fits.0, root_lines_are_lines (suc q) roots (omega arith) fits.1)

pub roots_read : (players : ℕ) (roots : List (List ℕ)) → players ≤ MOST_PLAYERS → AreRootsOf players roots → roots_at players (roots_text roots) ≡ Ok roots
unfolding roots_text
roots_read players roots few are =
    let count = are.count in
    let lines : AreLines (roots_lines roots) = (one_line (codes "roots") 1 refl (omega arith), root_lines_are_lines 0 roots (omega arith) are.fits) in
    ap (said_by players) (ended_lines_of-joined (roots_lines roots) lines) ∙ said_again players roots (omega arith) are

pub roots_again : (players : ℕ) (text : List ℕ) (roots : List (List ℕ)) → players ≤ MOST_PLAYERS → IsReadFrom players roots text → roots_at players text ≡ Ok roots
roots_again players text roots few from = ap (λ (t : List ℕ). roots_at players t) from.text_is ∙ roots_read players roots few from.whole

pub roots_found : (players : ℕ) (text : List ℕ) (roots : List (List ℕ)) → roots_at players text ≡ Ok roots → IsReadFrom players roots text
unfolding roots_text
roots_found players text roots e =
    let said = said_found players (ended_lines_of text) roots e in
    record { whole = said.0; text_is = sym (joined-ended_lines_of text) ∙ ap joined said.1 }

-- ---- what the reader answers

pub found_in : (players : ℕ) (text : List ℕ) (r : Result (List (List ℕ)) TextFault) → Gives is_memory (λ x. x) r (roots_at players text) → IfOk r (λ x. IsReadFrom players x text)
found_in players text r given = is_found is_memory (λ x. IsReadFrom players x text) r (roots_at players text) (roots_found players text) given

pub read_of : (players : ℕ) (text : List ℕ) (r : Result (List (List ℕ)) TextFault) (roots : List (List ℕ)) → players ≤ MOST_PLAYERS → Gives is_memory (λ x. x) r (roots_at players text)
    → IsReadFrom players roots text → IsRead Memory roots r
read_of players text r roots few given from = is_read is_memory Memory r (roots_at players text) roots only_memory given (roots_again players text roots few from)
