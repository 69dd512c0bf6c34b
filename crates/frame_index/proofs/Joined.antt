-- Joined: the findings of a turn one kind after the other, and of one turn more.
use Rattle.std.proofs.Common.{List, None, Some, [], ◌∷◌, ap, sym, ℕ, ◌++◌, ◌+◌, ◌∙◌, ◌≡◌, Option, append_assoc}
use Rattle.std.specs.Prelude.{flat_map}
use Rattle.std.specs.List.{cons_option, range_with_len}
use Rattle.std.specs.Option.{option_to_list}
use Rattle.std.proofs.lemmas.List.{append-nil}
use Rattle.definitions.specs.declared.findings.Kind.TheVariants.{TwoCommits, BadOpening, Collision, Illegal}
use Rattle.definitions.specs.declared.findings.Finding.{Finding}
use Rattle.definitions.specs.declared.logs.Entry.{Entry}
use Rattle.definitions.specs.World.{Game}
use Rattle.definitions.specs.Findings.{finding_at, findings_in}
use Rattle.plain_lemmas.proofs.Lists.{flat_more}

push_one : (out : List Finding) (o : Option Finding) (xs : List Finding) → (out ++ option_to_list o) ++ xs ≡ out ++ cons_option o xs
push_one out None xs = ap (λ (ys : List Finding). ys ++ xs) (append-nil out)
push_one out (Some x) xs = append_assoc out (x ∷ []) xs

push_four : (out : List Finding) (w x y z : Option Finding) → (((out ++ option_to_list w) ++ option_to_list x) ++ option_to_list y) ++ option_to_list z ≡ out ++ cons_option w (cons_option x (cons_option y (cons_option z [])))
push_four out w x y z =
    let a = out ++ option_to_list w in
    let b = a ++ option_to_list x in
    let c = b ++ option_to_list y in
    sym (append-nil (c ++ option_to_list z)) ∙ push_one c z [] ∙ push_one b y (cons_option z []) ∙ push_one a x (cons_option y (cons_option z [])) ∙ push_one out w (cons_option x (cons_option y (cons_option z [])))

-- the findings of a turn, kind by kind
pub four_kinds : (game : Game) (logs : List (List Entry)) (q t : ℕ) (out a b c d : List Finding) (w x y z : Option Finding) →
    w ≡ finding_at game logs q t TwoCommits → x ≡ finding_at game logs q t BadOpening → y ≡ finding_at game logs q t Collision → z ≡ finding_at game logs q t Illegal →
    a ≡ out ++ option_to_list w → b ≡ a ++ option_to_list x → c ≡ b ++ option_to_list y → d ≡ c ++ option_to_list z → d ≡ out ++ findings_in game logs q t
unfolding findings_in
four_kinds game logs q t out a b c d w x y z e f g h i j k l =
    l ∙ ap (λ (xs : List Finding). xs ++ option_to_list z) (k ∙ ap (λ (xs : List Finding). xs ++ option_to_list y) (j ∙ ap (λ (xs : List Finding). xs ++ option_to_list x) i))
    ∙ push_four out w x y z ∙ (λ n. out ++ cons_option (e n) (cons_option (f n) (cons_option (g n) (cons_option (h n) []))))

pub joined_more : (f : ℕ → List Finding) (n : ℕ) (out a b : List Finding) → a ≡ out ++ flat_map f (range_with_len 0 n) → b ≡ a ++ f n → b ≡ out ++ flat_map f (range_with_len 0 (n + 1))
joined_more f n out a b e g =
    g ∙ ap (λ (xs : List Finding). xs ++ f n) e ∙ append_assoc out (flat_map f (range_with_len 0 n)) (f n) ∙ ap (λ (xs : List Finding). out ++ xs) (sym (flat_more f n))
