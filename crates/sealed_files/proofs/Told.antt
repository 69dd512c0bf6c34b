-- Told: sealed frames are read and spelled.
use Rattle.std.proofs.Common.{◌≡◌, ◌<◌, ◌≤◌, ◌+◌, ◌-◌, ℕ, zero, suc, Bool, true, false, List, [], ◌∷◌, ◌++◌, None, Some, length, take, drop, refl, sym, ap, ◌∙◌, subst, arith, inl, inr}
use Rattle.std.specs.Prelude.{Option, is_some, ◌==◌, if◌then◌else◌, nat_lt, slice_index}
use Rattle.std.proofs.Math.Dec.{eqb-suc-zero}
use Rattle.std.proofs.lemmas.Bool.{and_parts, cases_lt, false_from_ne_true, false≢true}
use Rattle.std.proofs.lemmas.List.{drop-drop, drop_at, length-take, length-drop, take-append-drop, take_at}
use Rattle.std.proofs.lemmas.Option.{none-some, same_Some}
use Rattle.plain_lemmas.proofs.Tests.{chosen}
use Rattle.plain_lemmas.proofs.Lists.{take_bytes}
use Rattle.definitions.specs.declared.frames.TurnFrame.{TurnFrame}
use Rattle.definitions.specs.declared.frames.TurnFrame.TheVariants.{Commit, Reveal}
use Rattle.definitions.specs.Lists.{item_or}
use Rattle.definitions.specs.World.{Game}
use Rattle.definitions.specs.Logs.{player_of}
use Rattle.commitment.specs.Spelling.{FitsFrame, frame_bytes, turn_frame_of}
use Rattle.commitment.proofs.Reading.{length-frame, read_spelled, spelled_read}
use Rattle.seal_keys.specs.Seals.{is_valid, seal_len}
use Rattle.seal_keys.proofs.Departed.{valid_parts}
use Rattle.sealed_evidence.specs.Judging.{is_sealed}
use Rattle.definitions.specs.Lists.{is_empty}
use Rattle.sealed_files.specs.SealedFrames.{bad_from, frame_ahead, frame_len, sealed_ahead, seal_ahead, where_sealed}
use Rattle.sealed_files.specs.Laws.{SealedFramesAreFound, SealedFramesAreSpelled}

-- a valid seal is as long as the session's seals are
pub sealed_long : (game : Game) (roots : List (List ℕ)) (f : TurnFrame) (s : List ℕ) → is_sealed game roots f s ≡ true → length s ≡ seal_len game
sealed_long game roots f s h =
    (valid_parts game (item_or roots (player_of f) _) f s (and_parts (nat_lt (player_of f) (length roots)) (is_valid game (item_or roots (player_of f) _) f s) h).1).long

pub too_short : (game : Game) (roots : List (List ℕ)) (bytes : List ℕ) (f : TurnFrame) → length bytes < frame_len bytes + seal_len game → is_sealed game roots f (seal_ahead game bytes) ≡ false
too_short game roots bytes f few =
    false_from_ne_true (is_sealed game roots f (seal_ahead game bytes)) (λ h.
    let long = sealed_long game roots f (seal_ahead game bytes) h in
    absurd (omega (arith, length-take (seal_len game) (drop (frame_len bytes) bytes), length-drop (frame_len bytes) bytes)))

-- ---- what is spelled is read

third_front : (f : TurnFrame) (more : List ℕ) → slice_index (frame_bytes f ++ more) 2 ≡ slice_index (frame_bytes f) 2
unfolding frame_bytes
third_front (Commit p t d) more = refl
third_front (Reveal p t m n) more = refl

frame_found : (f : TurnFrame) (more : List ℕ) → FitsFrame f → (frame_len (frame_bytes f ++ more) ≡ length (frame_bytes f)) × (frame_ahead (frame_bytes f ++ more) ≡ Some f)
unfolding frame_ahead
frame_found f more fits =
    let third = third_front f more in
    let long = length-frame f fits in
    let len : frame_len (frame_bytes f ++ more) ≡ length (frame_bytes f) = omega arith in
    (len, ap (λ (n : ℕ). turn_frame_of (take n (frame_bytes f ++ more))) len ∙ ap turn_frame_of (take_at (frame_bytes f) more (length (frame_bytes f)) refl) ∙ spelled_read f fits)

pub found : SealedFramesAreFound
unfolding sealed_ahead
found game roots f s rest fits h =
    let bytes : List ℕ = frame_bytes f ++ (s ++ rest) in
    let frame = frame_found f (s ++ rest) fits in
    let long = sealed_long game roots f s h in
    let seal : seal_ahead game bytes ≡ s
    = ap (λ (n : ℕ). take (seal_len game) (drop n bytes)) frame.0 ∙ ap (take (seal_len game)) (drop_at (frame_bytes f) (s ++ rest) (length (frame_bytes f)) refl)
    ∙ take_at s rest (seal_len game) long in
    (ap (where_sealed game roots bytes) frame.1 ∙ ap (λ (x : List ℕ). if is_sealed game roots f x then Some f else None) seal ∙ ap (λ (b : Bool). if b then Some f else None) h, seal)

-- ---- what is read was spelled so

pub spelled : SealedFramesAreSpelled
unfolding sealed_ahead frame_ahead
spelled game roots bytes f are h = go (turn_frame_of (take (frame_len bytes) bytes)) refl h
  where
    go : (o : Option TurnFrame) → turn_frame_of (take (frame_len bytes) bytes) ≡ o → where_sealed game roots bytes o ≡ Some f →
        (bytes ≡ frame_bytes f ++ (seal_ahead game bytes ++ drop (frame_len bytes + seal_len game) bytes)) × (is_sealed game roots f (seal_ahead game bytes) ≡ true)
    go None e w = absurd (none-some f w)
    go (Some g) e w = elim (chosen (is_sealed game roots g (seal_ahead game bytes)) (Some g) None (Some f) w) [
      | inl a ↦
          let same = same_Some g f a.1 in
          let front = read_spelled (take (frame_len bytes) bytes) g (take_bytes (frame_len bytes) bytes are) e in
          let rest : List ℕ = drop (frame_len bytes) bytes in
          let back : rest ≡ seal_ahead game bytes ++ drop (frame_len bytes + seal_len game) bytes
          = sym (take-append-drop (seal_len game) rest) ∙ ap (λ (x : List ℕ). seal_ahead game bytes ++ x) (drop-drop (seal_len game) (frame_len bytes) bytes) in (
            sym (take-append-drop (frame_len bytes) bytes) ∙ ap (λ (x : List ℕ). x ++ rest) (sym front ∙ ap frame_bytes same) ∙ ap (λ (x : List ℕ). frame_bytes f ++ x) back,
            subst (λ (x : TurnFrame). is_sealed game roots x (seal_ahead game bytes) ≡ true) same a.0,
          )
      | inr n ↦ absurd (none-some f n.1)
    ]

-- ---- sealed frame after sealed frame

bad_none : (game : Game) (roots : List (List ℕ)) (at : ℕ) (bytes : List ℕ) → bad_from game roots 0 at bytes ≡ None
unfolding bad_from
bad_none game roots at bytes = refl

pub bad_done : (game : Game) (roots : List (List ℕ)) (n at : ℕ) (bytes : List ℕ) → n ≡ 0 → bad_from game roots n at bytes ≡ None
bad_done game roots n at bytes e = ap (λ (k : ℕ). bad_from game roots k at bytes) e ∙ bad_none game roots at bytes

pub bad_empty : (game : Game) (roots : List (List ℕ)) (n at : ℕ) (bytes : List ℕ) → is_empty bytes ≡ true → bad_from game roots n at bytes ≡ None
unfolding bad_from
bad_empty game roots zero at bytes e = refl
bad_empty game roots (suc n) at bytes e = rw e refl

pub bad_here : (game : Game) (roots : List (List ℕ)) (n at : ℕ) (bytes : List ℕ) → 0 < n → is_empty bytes ≡ false → is_some (sealed_ahead game roots bytes) ≡ false →
    bad_from game roots n at bytes ≡ Some at
unfolding bad_from
bad_here game roots zero at bytes some e r = absurd (omega arith)
bad_here game roots (suc n) at bytes some e r = rw (e, r) refl

pub bad_on : (game : Game) (roots : List (List ℕ)) (n at : ℕ) (bytes : List ℕ) → 0 < n → is_empty bytes ≡ false → is_some (sealed_ahead game roots bytes) ≡ true →
    bad_from game roots n at bytes ≡ bad_from game roots (n - 1) (at + (frame_len bytes + seal_len game)) (drop (frame_len bytes + seal_len game) bytes)
unfolding bad_from
bad_on game roots zero at bytes some e r = absurd (omega arith)
bad_on game roots (suc n) at bytes some e r =
    let same : suc n - 1 ≡ n = omega arith in
    rw (e, r, same) refl

-- a sealed frame that stands there has its bytes
pub sealed_within : (game : Game) (roots : List (List ℕ)) (bytes : List ℕ) → is_some (sealed_ahead game roots bytes) ≡ true → frame_len bytes + seal_len game ≤ length bytes
unfolding sealed_ahead
sealed_within game roots bytes r = go (frame_ahead bytes) r
  where
    go : (o : Option TurnFrame) → is_some (where_sealed game roots bytes o) ≡ true → frame_len bytes + seal_len game ≤ length bytes
    go None e = absurd (false≢true e)
    go (Some f) e = elim (cases_lt (length bytes) (frame_len bytes + seal_len game)) [
      | inl few ↦ absurd (false≢true (sym (ap (λ (b : Bool). is_some {T = TurnFrame} (if b then Some f else None)) (too_short game roots bytes f few)) ∙ e))
      | inr le ↦ le
    ]

pub empty_by : (xs : List ℕ) (b : Bool) → b ≡ (length xs == 0) → is_empty xs ≡ b
empty_by [] b e = sym e
empty_by (x ∷ xs) b e = sym (e ∙ eqb-suc-zero (length xs))
