-- Alike: what passes a test of equality is the same.
use Rattle.std.proofs.Common.{List, None, Some, ap, refl, true, ℕ, ◌∙◌, ◌≡◌}
use Rattle.std.proofs.lemmas.Bool.{and_from, and_parts, eq-eqb, eqb-true, false≢true}
use Rattle.std.specs.Prelude.{Option}
use Rattle.std.proofs.lemmas.Slice.Eq.{bytes_eq-Decides}
use Rattle.std.specs.Cmp.Lexicographic.{bytes_decides}
use Rattle.definitions.specs.Logs.{digest_eq, frame_eq, move_eq, nonce_eq, strike_eq}
use Rattle.definitions.specs.declared.openings.Digest.{Digest}
use Rattle.definitions.specs.declared.openings.Opening.{Opening}
use Rattle.definitions.specs.declared.world.Cell.{Cell}
use Rattle.definitions.specs.declared.frames.TurnFrame.TheVariants.{Commit, Reveal}
use Rattle.definitions.specs.Honest.{commits_to, reveals_of}
use Rattle.definitions.specs.Openings.{commitment}
use Rattle.definitions.specs.declared.frames.TurnFrame.{TurnFrame}
use Rattle.definitions.specs.declared.world.Move.{Move}
use Rattle.definitions.specs.declared.openings.Nonce.{Nonce}
use Rattle.definitions.specs.World.{Game}
use Rattle.definitions.proofs.Cells.{cell_eq-same, cell_eq-true}

pub digest_eq_true : (a b : Digest) → digest_eq a b ≡ true → a ≡ b
digest_eq_true a b h =
    let bytes : List ℕ → Digest = λ xs. record { bytes = xs } in
    ap bytes ((bytes_decides a.bytes b.bytes).0 h)

pub digest_eq_same : (d : Digest) → digest_eq d d ≡ true
digest_eq_same d = (bytes_eq-Decides d.bytes d.bytes).1 refl

pub strike_eq_true : (s t : Option Cell) → strike_eq s t ≡ true → s ≡ t
strike_eq_true None None h = refl
strike_eq_true None (Some d) h = absurd (false≢true h)
strike_eq_true (Some c) None h = absurd (false≢true h)
strike_eq_true (Some c) (Some d) h = ap (λ (e : Cell). Some e) (cell_eq-true c d h)

pub strike_eq_same : (s : Option Cell) → strike_eq s s ≡ true
strike_eq_same None = refl
strike_eq_same (Some c) = cell_eq-same c

pub move_eq_true : (m n : Move) → move_eq m n ≡ true → m ≡ n
move_eq_true m n h =
    let both = and_parts _ _ h in
    let at_to : Cell → Move = λ c. record { to = c; strike = m.strike } in
    let at_strike : Option Cell → Move = λ s. record { to = n.to; strike = s } in
    ap at_to (cell_eq-true m.to n.to both.0) ∙ ap at_strike (strike_eq_true m.strike n.strike both.1)

pub move_eq_same : (m : Move) → move_eq m m ≡ true
move_eq_same m = and_from _ _ (cell_eq-same m.to) (strike_eq_same m.strike)

pub nonce_eq_true : (a b : Nonce) → nonce_eq a b ≡ true → a ≡ b
nonce_eq_true a b h = let bytes : List ℕ → Nonce = λ xs. record { bytes = xs } in ap bytes ((bytes_eq-Decides a.bytes b.bytes).0 h)

pub nonce_eq_same : (n : Nonce) → nonce_eq n n ≡ true
nonce_eq_same n = (bytes_eq-Decides n.bytes n.bytes).1 refl

pub frame_eq_same : (f : TurnFrame) → frame_eq f f ≡ true
frame_eq_same (Commit p t d) = and_from _ _ (and_from _ _ (eq-eqb p p refl) (eq-eqb t t refl)) (digest_eq_same d)
frame_eq_same (Reveal p t m n) = and_from _ _ (and_from _ _ (and_from _ _ (eq-eqb p p refl) (eq-eqb t t refl)) (move_eq_same m)) (nonce_eq_same n)

pub commits_to_some : (game : Game) (o : Option Opening) (d : Digest) → commits_to game o d ≡ true → (p : Opening) × (o ≡ Some p) × (d ≡ commitment game.id p)
commits_to_some game None d h = absurd (false≢true h)
commits_to_some game (Some p) d h = (p, refl, digest_eq_true d (commitment game.id p) h)

pub reveals_of_some : (o : Option Opening) (m : Move) (n : Nonce) → reveals_of o m n ≡ true → (p : Opening) × (o ≡ Some p) × (m ≡ p.mv) × (n ≡ p.nonce)
reveals_of_some None m n h = absurd (false≢true h)
reveals_of_some (Some p) m n h = let both = and_parts _ _ h in (p, refl, move_eq_true m p.mv both.0, nonce_eq_true n p.nonce both.1)

pub reveal_from : (p q t u : ℕ) (m k : Move) (n o : Nonce) → p ≡ q → t ≡ u → m ≡ k → n ≡ o → Reveal p t m n ≡ Reveal q u k o
reveal_from p q t u m k n o a b c d = cc

pub reveal_move : (p q t u : ℕ) (m k : Move) (n o : Nonce) → Reveal p t m n ≡ Reveal q u k o → m ≡ k
reveal_move p q t u m k n o e = cc

-- the same frame, where the test says so
pub frame_eq_true : (f g : TurnFrame) → frame_eq f g ≡ true → f ≡ g
frame_eq_true (Commit p t d) (Commit q u e) h =
    let a = and_parts _ _ h in
    let b = and_parts _ _ a.0 in
    let player : p ≡ q = eqb-true p q b.0 in
    let turn : t ≡ u = eqb-true t u b.1 in
    let digest : d ≡ e = digest_eq_true d e a.1 in
    cc
frame_eq_true (Commit p t d) (Reveal q u m n) h = absurd (false≢true h)
frame_eq_true (Reveal p t m n) (Commit q u d) h = absurd (false≢true h)
frame_eq_true (Reveal p t m n) (Reveal q u k o) h =
    let a = and_parts _ _ h in
    let b = and_parts _ _ a.0 in
    let c = and_parts _ _ b.0 in
    reveal_from p q t u m k n o (eqb-true p q c.0) (eqb-true t u c.1) (move_eq_true m k b.1) (nonce_eq_true n o a.1)
