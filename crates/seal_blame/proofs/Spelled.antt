-- Spelled: a frame of fair play has one spelling, whatever its digest or nonce.
use Rattle.std.proofs.Common.{◌≡◌, ◌<◌, ◌^◌, ℕ, Bool, true, false, List, None, Some}
use Rattle.std.proofs.Common.{length, slice_get, refl, ap, arith}
use Rattle.std.specs.Prelude.{Option, if◌then◌else◌, is_none, nat_lt, not, slice_index}
use Rattle.std.proofs.lemmas.Bool.{and_parts, false≢true, ltb-true}
use Rattle.definitions.specs.declared.world.Cell.{Cell}
use Rattle.definitions.specs.declared.world.Move.{Move}
use Rattle.definitions.specs.declared.world.MoveFault.{MoveFault}
use Rattle.definitions.specs.declared.world.Track.{Track}
use Rattle.definitions.specs.declared.openings.Nonce.{Nonce}
use Rattle.definitions.specs.declared.frames.TurnFrame.{TurnFrame}
use Rattle.definitions.specs.declared.frames.TurnFrame.TheVariants.{Commit, Reveal}
use Rattle.definitions.specs.World.{Game, Ground, is_inside}
use Rattle.definitions.specs.Moves.{is_legal, start_track}
use Rattle.definitions.specs.Openings.{FitsCell, FitsStrike, cell_bytes, move_bytes}
use Rattle.definition_laws.specs.Distances.{IsLegalStrike}
use Rattle.definition_laws.proofs.LegalMoves.{legal_is_walk}
use Rattle.definition_laws.proofs.Members.{slice_get_Has}
use Rattle.definition_laws.proofs.Strikes.{legal_at}
use Rattle.commitment.specs.Spelling.{FitsFrame, frame_bytes}
use Rattle.grid_world.specs.Grids.{IsGrid}
use Rattle.grid_world.specs.Sessions.{IsSession}
use Rattle.seal_blame.specs.Made.{AreMade}
use Rattle.seal_blame.proofs.ShownSo.{one_spelling}

-- ---- a frame of fair play fits its fields, but for its digest or nonce

-- the move's numbers fit their fields
abbrev FitsMove : Move → Type 0
FitsMove m = FitsCell m.to × FitsStrike m.strike

-- the frame's numbers do
abbrev pub FitsNumbers : TurnFrame → Type 0
FitsNumbers (Commit p t d) = (p < 2 ^ 8) × (t < 2 ^ 32)
FitsNumbers (Reveal p t m n) = (p < 2 ^ 8) × (t < 2 ^ 32) × FitsMove m

first_passes : (a : Bool) (x : MoveFault) (o : Option MoveFault) →
    is_none (if not a then Some x else o) ≡ true → a ≡ true
first_passes true x o h = refl
first_passes false x o h = absurd (false≢true h)

ends_inside : (game : Game) (q : ℕ) (track : Track) (m : Move) → is_legal game q track m ≡ true →
    is_inside game.grid m.to ≡ true
unfolding is_legal
ends_inside game q track m h = first_passes (is_inside game.grid m.to) _ _ h

cell_fits : (grid : Ground) (c : Cell) → IsGrid grid → is_inside grid c ≡ true → FitsCell c
cell_fits grid c is h =
    let a = and_parts (nat_lt c.x grid.width) (nat_lt c.y grid.height) h in
    let x = ltb-true c.x grid.width a.0 in
    let y = ltb-true c.y grid.height a.1 in
    let wide = is.width.1 in
    let high = is.height.1 in
    (omega arith, omega arith)

strike_fits : (game : Game) (q : ℕ) (track : Track) (to : Cell) (s : Option Cell) →
    IsGrid game.grid → IsLegalStrike game q track to s → FitsStrike s
strike_fits game q track to None grid h = tt
strike_fits game q track to (Some c) grid h = cell_fits game.grid c grid h.0

move_fits : (game : Game) (q : ℕ) (track : Track) (m : Move) → IsGrid game.grid →
    is_legal game q track m ≡ true → FitsMove m
move_fits game q track m grid h = (
  cell_fits game.grid m.to grid (ends_inside game q track m h),
  strike_fits game q track m.to m.strike grid (legal_is_walk game q track m h).strike,
)

module _ (game : Game) (q : ℕ) (made : List TurnFrame) (is : IsSession game) (small : q < 2 ^ 8)
    (are : AreMade game q made) where
  pub numbers_fit : (f : TurnFrame) (k : ℕ) → slice_get made k ≡ Some f → FitsNumbers f
  numbers_fit (Commit p t d) k at =
      let placed = are.placed k (Commit p t d) at in
      let own : p ≡ q = placed.0 in
      let played : t < game.turns = placed.1 in
      let most = is.turns.1 in
      (omega (arith, small, own), omega (arith, played, most))
  numbers_fit (Reveal p t m n) k at =
      let placed = are.placed k (Reveal p t m n) at in
      let own : p ≡ q = placed.0 in
      let played : t < game.turns = placed.1 in
      let most = is.turns.1 in
      let moved = are.shown p t m n (slice_get_Has made k (Reveal p t m n) at) in
      let legal = legal_at game q (start_track game q) are.moves t m are.legal moved in
      let fits = move_fits game q _ m is.grid legal in
      (omega (arith, small, own), omega (arith, played, most), fits)

-- ---- so a frame that is spelled as one that fits is that one

abbrev moved_to : (to : Cell) → Option Cell → Move
moved_to to s = record { to = to; strike = s }

nonce_long : (p t p' t' : ℕ) (to to' : Cell) (s s' : Option Cell) (n n' : Nonce) →
    length n'.bytes ≡ 32 →
    frame_bytes (Reveal p t (moved_to to s) n) ≡ frame_bytes (Reveal p' t' (moved_to to' s') n') →
    length n.bytes ≡ 32
unfolding frame_bytes move_bytes cell_bytes
nonce_long p t p' t' to to' None None n n' long e =
    let count = ap length e in omega (arith, long, count)
nonce_long p t p' t' to to' None (Some c) n n' long e =
    let third = ap (λ (bs : List ℕ). slice_index bs 2) e in absurd (omega (arith, third))
nonce_long p t p' t' to to' (Some b) None n n' long e =
    let third = ap (λ (bs : List ℕ). slice_index bs 2) e in absurd (omega (arith, third))
nonce_long p t p' t' to to' (Some b) (Some c) n n' long e =
    let count = ap length e in omega (arith, long, count)

fits_too : (own f : TurnFrame) → FitsNumbers own → FitsFrame f → frame_bytes own ≡ frame_bytes f →
    FitsFrame own
unfolding frame_bytes
fits_too (Commit p t d) (Commit p' t' d') a b e =
    let count = ap length e in let long = b.2 in (a.0, a.1, omega (arith, long, count))
fits_too (Commit p t d) (Reveal p' t' m' n') a b e =
    let kind = ap (λ (bs : List ℕ). slice_index bs 0) e in absurd (omega (arith, kind))
fits_too (Reveal p t m n) (Commit p' t' d') a b e =
    let kind = ap (λ (bs : List ℕ). slice_index bs 0) e in absurd (omega (arith, kind))
fits_too (Reveal p t m n) (Reveal p' t' m' n') a b e =
    let long = nonce_long p t p' t' m.to m'.to m.strike m'.strike n n' b.4 e in
    (a.0, a.1, a.2.0, a.2.1, long)

pub spelled_alike : (own f : TurnFrame) → FitsNumbers own → FitsFrame f →
    frame_bytes own ≡ frame_bytes f → own ≡ f
spelled_alike own f a b e = one_spelling own f (fits_too own f a b e) b e
