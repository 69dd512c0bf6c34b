-- Keyed: different frames have different keys, and the order of keys tells them apart.
use Rattle.std.proofs.Common.{◌≡◌, ℕ, true, false, List, Option, None, Some, refl, sym, ap, ◌∙◌}
use Rattle.std.specs.Prelude.{option_map}
use Rattle.std.specs.declared.cmp.Ordering.{Ordering}
use Rattle.std.specs.declared.cmp.Ordering.TheVariants.{Less, Equal, Greater}
use Rattle.std.specs.Ordering.{is_eq, nat_cmp, ordering_then}
use Rattle.std.specs.Option.{option_cmp}
use Rattle.std.specs.BTreeMap.{is_at}
use Rattle.std.proofs.lemmas.Map.Lookups.{exact_bytes, exact_pairs, exact_unsigned}
use Rattle.definitions.specs.declared.world.Cell.{Cell}
use Rattle.definitions.specs.declared.frames.TurnFrame.{TurnFrame}
use Rattle.definitions.specs.declared.frames.TurnFrame.TheVariants.{Commit, Reveal}
use Rattle.accuser.specs.declared.frame_key.FrameKey.{FrameKey}
use Rattle.accuser.specs.Keys.{cell_pair, key_cmp, key_of, pair_cmp}

both_equal : (a b : Ordering) → ordering_then a b ≡ Equal → (a ≡ Equal) × (b ≡ Equal)
both_equal Less b e = absurd (let no : Less ≡ Equal = e in cc)
both_equal Equal b e = (refl, e)
both_equal Greater b e = absurd (let no : Greater ≡ Equal = e in cc)

equal_of : (o : Ordering) → is_eq o ≡ true → o ≡ Equal
equal_of Less e = absurd (let no : false ≡ true = e in cc)
equal_of Equal e = refl
equal_of Greater e = absurd (let no : false ≡ true = e in cc)

exact_pair : (x y : ℕ × ℕ) → pair_cmp x y ≡ Equal → x ≡ y
exact_pair = exact_pairs nat_cmp nat_cmp exact_unsigned exact_unsigned

exact_option : (a b : Option (ℕ × ℕ)) → option_cmp pair_cmp a b ≡ Equal → a ≡ b
exact_option None None e = refl
exact_option None (Some y) e = absurd (let no : Less ≡ Equal = e in cc)
exact_option (Some x) None e = absurd (let no : Greater ≡ Equal = e in cc)
exact_option (Some x) (Some y) e = ap (λ (z : ℕ × ℕ). Some z) (exact_pair x y e)

exact_key : (k l : FrameKey) → key_cmp k l ≡ Equal → k ≡ l
exact_key k l e =
    let a = both_equal (nat_cmp k.player l.player) _ e in
    let b = both_equal (nat_cmp k.turn l.turn) _ a.1 in
    let c = both_equal _ _ b.1 in
    let d = both_equal (option_cmp pair_cmp k.to l.to) (option_cmp pair_cmp k.strike l.strike) c.1 in
    λ i. record {
      player = exact_unsigned k.player l.player a.0 i;
      turn = exact_unsigned k.turn l.turn b.0 i;
      bytes = exact_bytes k.bytes l.bytes c.0 i;
      to = exact_option k.to l.to d.0 i;
      strike = exact_option k.strike l.strike d.1 i;
    }

cell_of : ℕ × ℕ → Cell
cell_of p = record { x = p.0; y = p.1 }

frame_by : ℕ → ℕ → List ℕ → Option (ℕ × ℕ) → Option (ℕ × ℕ) → TurnFrame
frame_by p t bytes None strike = Commit p t (record { bytes = bytes })
frame_by p t bytes (Some to) strike = Reveal p t (record { to = cell_of to; strike = option_map cell_of strike }) (record { bytes = bytes })

-- the frame of which the key is
frame_under : FrameKey → TurnFrame
frame_under k = frame_by k.player k.turn k.bytes k.to k.strike

strike_back : (s : Option Cell) → option_map cell_of (option_map cell_pair s) ≡ s
unfolding cell_of
strike_back None = refl
strike_back (Some c) = refl

frame_back : (f : TurnFrame) → frame_under (key_of f) ≡ f
unfolding frame_under frame_by cell_of
frame_back (Commit p t d) = refl
frame_back (Reveal p t m n) = ap (λ (s : Option Cell). Reveal p t (record { to = m.to; strike = s }) n) (strike_back m.strike)

-- where a look-up for the one frame comes to the key of the other, they are one
pub one_frame : (f g : TurnFrame) → is_at (key_cmp (key_of f)) (key_of g) ≡ true → f ≡ g
one_frame f g e = sym (frame_back f) ∙ ap frame_under (exact_key (key_of f) (key_of g) (equal_of _ e)) ∙ frame_back g
