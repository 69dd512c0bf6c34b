-- Taken: a roster is read from its lines, and the lines of one that is read are its own.
use Rattle.std.proofs.Common.{◌≡◌, ℕ, zero, suc, Bool, true, false, List, [], ◌∷◌, ◌++◌, map, Result, Ok, Err, refl, sym, ap, subst, ◌∙◌, append_assoc, arith}
use Rattle.std.specs.Prelude.{IfOk, codes, ◌==◌}
use Rattle.std.specs.Cmp.Lexicographic.{same_text}
use Rattle.std.proofs.lemmas.Bool.{eq-eqb, eqb-true}
use Rattle.std.proofs.lemmas.List.{append-nil, map-append}
use Rattle.plain_lemmas.proofs.Each.{each_append}
use Rattle.definitions.specs.Lists.{EachIs}
use Rattle.text_lines.specs.Lines.{ended_lines_of, is_bare, joined, line_of, one_within}
use Rattle.text_lines.specs.Reading.{line_at}
use Rattle.text_lines.specs.Answers.{Faults, Gives, IsRead}
use Rattle.text_lines.proofs.Answers.{faults, is_found, is_read}
use Rattle.text_lines.proofs.Forms.{one_within-some, one_within-spelled}
use Rattle.text_lines.proofs.Joined.{AreLines, bare_line, ended_lines_of-joined, joined-ended_lines_of, one_line}
use Rattle.text_lines.proofs.Steps.{bind_ok, keeps_ok, line_at_ok, none_behind, ok_is}
use Rattle.text_fields.specs.declared.fault.TextFault.{TextFault}
use Rattle.text_fields.specs.declared.fault.TextFault.TheVariants.{At, Memory}
use Rattle.text_fields.specs.Faults.{is_memory}
use Rattle.text_fields.proofs.Faults.{only_memory}
use Rattle.rosters.specs.declared.roster.Link.{Link}
use Rattle.rosters.specs.Rosters.{Neighbours, others}
use Rattle.rosters.specs.Text.{FitsLink, IsReadFrom, IsRoster, end_line, link_line, me_line, roster_lines, roster_text, version_line}
use Rattle.rosters.specs.Reading.{end_at, line_number, link_at, link_said, links_at, me_said, roster_at, roster_fault, said_by, with_link}
use Rattle.rosters.proofs.Lines.{link_read, link_taken, me_read, me_taken}
use Rattle.rosters.proofs.Links.{links_suc, with_me, with_other}
use Rattle.rosters.proofs.Plain.{link_is_line, me_is_line}

-- ---- what is spelled is read

link_again : (me q : ℕ) (l : Link) (rest : List (List ℕ)) → l.player ≡ q → FitsLink l → link_at me q (link_line l ∷ rest) ≡ Ok (l, rest)
unfolding link_at
link_again me q l rest same fits = rw (link_read l fits, eq-eqb l.player q same) refl

-- a list whose image ends with an item ends with one of that image
map_last : {X Y : Type 0} (f : X → Y) (xs : List X) (ys : List Y) (y : Y) → map f xs ≡ ys ++ (y ∷ []) → (front : List X) × (x : X) × (xs ≡ front ++ (x ∷ [])) × (map f front ≡ ys) × (f x ≡ y)
map_last f [] [] y e = absurd cc
map_last f [] (z ∷ ys) y e = absurd cc
map_last f (x ∷ []) [] y e = ([], x, refl, refl, cc)
map_last f (x ∷ w ∷ xs) [] y e = absurd cc
map_last {X} {Y} f (x ∷ xs) (z ∷ ys) y e =
    let tail : map f xs ≡ ys ++ (y ∷ []) = cc in
    let head : f x ≡ z = cc in
    let found = map_last f xs ys y tail in
    (x ∷ found.0, found.1, ap (λ (t : List X). x ∷ t) found.2, ap (λ (t : List Y). f x ∷ t) found.3 ∙ ap (λ (w : Y). w ∷ ys) head, found.4)

each_front : (P : Link → Type 0) (xs ys : List Link) → EachIs P (xs ++ ys) → EachIs P xs × EachIs P ys
each_front P [] ys each = (tt, each)
each_front P (x ∷ xs) ys each = let parts = each_front P xs ys each.1 in ((each.0, parts.0), parts.1)

-- the lines of one link more
lines_more : (front : List Link) (l : Link) (rest : List (List ℕ)) → map link_line (front ++ (l ∷ [])) ++ rest ≡ map link_line front ++ (link_line l ∷ rest)
lines_more front l rest = ap (λ (t : List (List ℕ)). t ++ rest) (map-append link_line front (l ∷ [])) ∙ append_assoc (map link_line front) (link_line l ∷ []) rest

others_me : (me q : ℕ) → (q == me) ≡ true → others me (suc q) ≡ others me q
others_me me q is = rw is (append-nil (others me q))

others_more : (me q : ℕ) → (q == me) ≡ false → others me (suc q) ≡ others me q ++ (q ∷ [])
others_more me q is = rw is refl

-- links to the players below this number are read from their lines, whatever stands behind these
AreAgain : (me k : ℕ) → Type 0
AreAgain me k = (links : List Link) (rest : List (List ℕ)) → map (λ l. l.player) links ≡ others me k → EachIs FitsLink links → links_at me k (map link_line links ++ rest) ≡ Ok (links, rest)

links_next : (me q : ℕ) (b : Bool) → (q == me) ≡ b → AreAgain me q → AreAgain me (suc q)
unfolding AreAgain
links_next me q true is ih links rest e fits =
    let here : others me (suc q) ≡ others me q = others_me me q is in
    links_suc me q (map link_line links ++ rest) links rest (ih links rest (e ∙ here) fits) ∙ with_me me q links rest is
links_next me q false is ih links rest e fits =
    let here : others me (suc q) ≡ others me q ++ (q ∷ []) = others_more me q is in
    let last = map_last (λ (l : Link). l.player) links (others me q) q (e ∙ here) in
    let front = last.0 in
    let l = last.1 in
    let each = each_front FitsLink front (l ∷ []) (subst (EachIs FitsLink) last.2 fits) in
    let P : List Link → Type 0 = λ ls. links_at me (suc q) (map link_line ls ++ rest) ≡ Ok (ls, rest) in
    let lines : List (List ℕ) = map link_line front ++ (link_line l ∷ rest) in
    let one : links_at me (suc q) lines ≡ Ok (front ++ (l ∷ []), rest) =
    links_suc me q lines front (link_line l ∷ rest) (ih front (link_line l ∷ rest) last.3 each.0) ∙ with_other me q front (link_line l ∷ rest) l rest is (link_again me q l rest last.4 each.1.0) in
    subst P (sym last.2) (ap (links_at me (suc q)) (lines_more front l rest) ∙ one)

links_again : (me k : ℕ) → AreAgain me k
unfolding AreAgain links_at
links_again me zero [] rest e fits = refl
links_again me zero (l ∷ links) rest e fits = absurd cc
links_again me (suc q) links rest e fits = links_next me q (q == me) refl (links_again me q) links rest e fits

-- ---- what is read was spelled so

-- these lines are those of links that fit, to the players below this number but me, and the rest
record AreTaken (me k : ℕ) (lines : List (List ℕ)) (links : List Link) (rest : List (List ℕ)) : Type 0 where
  numbers : map (λ l. l.player) links ≡ others me k
  fits : EachIs FitsLink links
  spelled : lines ≡ map link_line links ++ rest

-- the line of a link to this player
record IsTaken (q : ℕ) (lines : List (List ℕ)) (l : Link) (rest : List (List ℕ)) : Type 0 where
  same : l.player ≡ q
  fits : FitsLink l
  spelled : lines ≡ link_line l ∷ rest

abbrev TakesLink : ℕ → List (List ℕ) → Link × List (List ℕ) → Type 0
TakesLink q lines x = IsTaken q lines x.0 x.1

link_takes : (me q : ℕ) (lines : List (List ℕ)) (x : Link × List (List ℕ)) → link_at me q lines ≡ Ok x → TakesLink q lines x
unfolding link_at
link_takes me q lines x e =
    let a = bind_ok (line_at (At (line_number me q)) link_said lines) _ x e in
    let kept = keeps_ok (At (line_number me q)) (a.0.0.player == q) a.0 x a.2 in
    let line = line_at_ok (At (line_number me q)) link_said lines a.0.0 a.0.1 a.1 in
    let taken = link_taken line.0 a.0.0 line.2 in
    subst (TakesLink q lines) kept.1 (record {
      same = eqb-true a.0.0.player q kept.0;
      fits = taken.1;
      spelled = line.1 ∙ ap (λ (l : List ℕ). l ∷ a.0.1) taken.0;
    })

abbrev TakesLinks : (me k : ℕ) → List (List ℕ) → List Link × List (List ℕ) → Type 0
TakesLinks me k lines x = AreTaken me k lines x.0 x.1

with_takes : (me q : ℕ) (b : Bool) → (q == me) ≡ b → (lines : List (List ℕ)) (links : List Link) (mid : List (List ℕ)) (x : List Link × List (List ℕ)) → AreTaken me q lines links mid
    → with_link me q links mid ≡ Ok x → TakesLinks me (suc q) lines x
unfolding with_link
with_takes me q true is lines links mid x before e =
    let here = others_me me q is in
    let plain = with_me me q links mid is in
    let same : (links, mid) ≡ x = ok_is {E = TextFault} (links, mid) x (sym plain ∙ e) in
    subst (TakesLinks me (suc q) lines) same (record { numbers = before.numbers ∙ sym here; fits = before.fits; spelled = before.spelled })
with_takes me q false is lines links mid x before e =
    let here = others_more me q is in
    let a = bind_ok (link_at me q mid) (λ link. Ok (links ++ (link.0 ∷ []), link.1)) x (sym (rw is refl) ∙ e) in
    let one = link_takes me q mid a.0 a.1 in
    let l = a.0.0 in
    let numbers : map (λ (k : Link). k.player) (links ++ (l ∷ [])) ≡ others me (suc q) =
    map-append (λ (k : Link). k.player) links (l ∷ []) ∙ ap (λ (ns : List ℕ). ns ++ (l.player ∷ [])) before.numbers ∙ ap (λ n. others me q ++ (n ∷ [])) one.same ∙ sym here in
    let spelled : lines ≡ map link_line (links ++ (l ∷ [])) ++ a.0.1 =
    before.spelled ∙ ap (λ (ls : List (List ℕ)). map link_line links ++ ls) one.spelled ∙ sym (lines_more links l a.0.1) in
    subst (TakesLinks me (suc q) lines) (ok_is {E = TextFault} (links ++ (l ∷ []), a.0.1) x a.2)
    (record { numbers = numbers; fits = each_append FitsLink links (l ∷ []) before.fits (one.fits, tt); spelled = spelled })

links_take : (me k : ℕ) (lines : List (List ℕ)) (x : List Link × List (List ℕ)) → links_at me k lines ≡ Ok x → TakesLinks me k lines x
unfolding links_at
links_take me zero lines x e = subst (TakesLinks me 0 lines) (ok_is {E = TextFault} ([], lines) x e) (record { numbers = refl; fits = tt; spelled = refl })
links_take me (suc q) lines x e =
    let a = bind_ok (links_at me q lines) _ x e in
    with_takes me q (q == me) refl lines a.0.0 a.0.1 x (links_take me q lines a.0 a.1) a.2

pub end_takes : (n : ℕ) (lines : List (List ℕ)) (xs : List ℕ) → end_at n lines ≡ Ok xs → lines ≡ end_line ∷ []
unfolding end_at
end_takes n [] xs e = absurd cc
end_takes n (line ∷ lines) xs e = by_end (is_bare (codes "end") line) refl
  where
    by_end : (b : Bool) → is_bare (codes "end") line ≡ b → line ∷ lines ≡ end_line ∷ []
    by_end true is =
        let none = none_behind (At (suc n)) lines xs (sym (rw is refl) ∙ e) in
        ap (λ (ls : List (List ℕ)). line ∷ ls) none.0 ∙ ap (λ (l : List ℕ). l ∷ []) (same_text line end_line (sym is))
    by_end false is = let bad : end_at n (line ∷ lines) ≡ Err (At n) = rw is refl in let h = sym bad ∙ e in absurd cc

-- ---- whole rosters

said_again : (me players : ℕ) (r : Neighbours) → IsRoster me players r → said_by me players (roster_lines r) ≡ Ok r
unfolding said_by end_at AreAgain
said_again me players r is =
    rw (
      one_within-spelled (codes "roster") 1 1 1 (omega arith) (omega arith) (omega arith),
      me_read r.me is.own,
      links_again me players r.links (end_line ∷ []) is.numbers is.links,
    ) refl

said_found : (me players : ℕ) (lines : List (List ℕ)) (r : Neighbours) → said_by me players lines ≡ Ok r → IsRoster me players r × (lines ≡ roster_lines r)
unfolding said_by
said_found me players lines r e =
    let v = bind_ok (line_at (At 1) (one_within (codes "roster") 1 1) lines) _ r e in
    let o = bind_ok (line_at (At 2) me_said v.0.1) _ r v.2 in
    let ls = bind_ok (links_at me players o.0.1) _ r o.2 in
    let end = bind_ok (end_at (line_number me players) ls.0.1) _ r ls.2 in
    let version = line_at_ok (At 1) (one_within (codes "roster") 1 1) lines v.0.0 v.0.1 v.1 in
    let number = one_within-some (codes "roster") 1 1 version.0 v.0.0 version.2 in
    let one : v.0.0 ≡ 1 = omega (arith, number.1, number.2) in
    let own = line_at_ok (At 2) me_said v.0.1 o.0.0 o.0.1 o.1 in
    let address = me_taken own.0 o.0.0 own.2 in
    let taken = links_take me players o.0.1 ls.0 ls.1 in
    let last = end_takes (line_number me players) ls.0.1 end.0 end.1 in
    let made : Neighbours = record { me = o.0.0; links = ls.0.0 } in
    let head : lines ≡ version_line ∷ v.0.1 = version.1 ∙ ap (λ (l : List ℕ). l ∷ v.0.1) (number.0 ∙ ap (λ n. line_of (codes "roster") (n ∷ [])) one) in
    let second : v.0.1 ≡ me_line o.0.0 ∷ o.0.1 = own.1 ∙ ap (λ (l : List ℕ). l ∷ o.0.1) address.0 in
    let third : o.0.1 ≡ map link_line ls.0.0 ++ (end_line ∷ []) = taken.spelled ∙ ap (λ (t : List (List ℕ)). map link_line ls.0.0 ++ t) last in
    let whole : lines ≡ roster_lines made = head ∙ ap (λ (t : List (List ℕ)). version_line ∷ t) (second ∙ ap (λ (t : List (List ℕ)). me_line o.0.0 ∷ t) third) in
    subst (λ (y : Neighbours). IsRoster me players y × (lines ≡ roster_lines y)) (ok_is {E = TextFault} made r end.2) (record { own = address.1; numbers = taken.numbers; links = taken.fits }, whole)

links_are_lines : (links : List Link) → EachIs FitsLink links → AreLines (map link_line links ++ (end_line ∷ []))
links_are_lines [] fits = (bare_line (codes "end") refl, tt)
links_are_lines (l ∷ links) fits = (link_is_line l fits.0, links_are_lines links fits.1)

pub roster_again : (me players : ℕ) (text : List ℕ) (r : Neighbours) → IsReadFrom me players r text → roster_at me players text ≡ Ok r
unfolding roster_text
roster_again me players text r from =
    let is = from.roster in
    let lines : AreLines (roster_lines r) = (one_line (codes "roster") 1 refl (omega arith), (me_is_line r.me is.own, links_are_lines r.links is.links)) in
    ap (λ (t : List ℕ). roster_at me players t) from.text_is ∙ ap (said_by me players) (ended_lines_of-joined (roster_lines r) lines) ∙ said_again me players r is

pub roster_found : (me players : ℕ) (text : List ℕ) (r : Neighbours) → roster_at me players text ≡ Ok r → IsReadFrom me players r text
unfolding roster_text
roster_found me players text r e =
    let said = said_found me players (ended_lines_of text) r e in
    record { roster = said.0; text_is = sym (joined-ended_lines_of text) ∙ ap joined said.1 }

-- ---- what the reader answers

pub found_in : (me players : ℕ) (text : List ℕ) (r : Result Neighbours TextFault) → Gives is_memory (λ x. x) r (roster_at me players text) → IfOk r (λ x. IsReadFrom me players x text)
found_in me players text r given = is_found is_memory (λ x. IsReadFrom me players x text) r (roster_at me players text) (roster_found me players text) given

pub read_of : (me players : ℕ) (text : List ℕ) (r : Result Neighbours TextFault) (x : Neighbours) → Gives is_memory (λ x. x) r (roster_at me players text) → IsReadFrom me players x text → IsRead Memory x r
read_of me players text r x given from = is_read is_memory Memory r (roster_at me players text) x only_memory given (roster_again me players text x from)

pub faults_of : (me players : ℕ) (text : List ℕ) (r : Result Neighbours TextFault) → Gives is_memory (λ x. x) r (roster_at me players text) → Faults is_memory r (roster_fault me players text)
faults_of me players text r given = faults is_memory r (roster_at me players text) given
