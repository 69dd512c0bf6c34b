-- Heard: what a logger says, frame by frame.
use Rattle.std.proofs.Common.{◌≡◌, ℕ, ◌+◌, ◌-◌, ◌≤◌, ◌<◌, Bool, true, false, refl, sym, ap, ◌∙◌, List, [], ◌∷◌, arith, drop, length}
use Rattle.std.proofs.lemmas.List.{length-drop}
use Rattle.std.specs.Prelude.{Option, Some, None, if◌then◌else◌}
use Rattle.std.specs.List.{fold}
use Rattle.wire_frames.specs.declared.frames.Frame.{Frame}
use Rattle.wire_frames.specs.declared.frames.Frame.TheVariants.{Hello, Turn, Want}
use Rattle.wire_frames.specs.declared.frames.FedWhat.{FedWhat}
use Rattle.wire_frames.specs.declared.frames.FedWhat.TheVariants as what
use Rattle.wire_frames.specs.Reading.{Reading}
use Rattle.wire_frames.specs.Streams.{Given, given_of, given_on}
use Rattle.deposit_rules.specs.declared.line.DepositLine.{DepositLine}
use Rattle.deposit_rules.specs.declared.line.TheConstants.{MOST_ANSWER}
use Rattle.deposit_rules.specs.Lines.{doomed_if, fed, heard, heard_all, heard_frame, wanted}

abbrev pub with_reader : Reading → DepositLine → DepositLine
with_reader r w = record w { reader = r }

frame_reader : (w : DepositLine) (r : Reading) (f : Frame) → heard_frame (with_reader r w) f ≡ with_reader r (heard_frame w f)
frame_reader w r (Hello id q pass next) = refl
frame_reader w r (Turn f) = refl
frame_reader w r (Want place) = go w.cursor
  where
    go : (o : Option ℕ) → wanted place o (with_reader r w) ≡ with_reader r (wanted place o w)
    go None = refl
    go (Some at) = refl

heard_reader : (w : DepositLine) (r : Reading) (f : Frame) → heard (with_reader r w) f ≡ with_reader r (heard w f)
heard_reader w r f = go w.is_wrong
  where
    go : (b : Bool) → (if b then with_reader r w else heard_frame (with_reader r w) f) ≡ with_reader r (if b then w else heard_frame w f)
    go true = refl
    go false = frame_reader w r f

fold_reader : (fs : List Frame) (w : DepositLine) (r : Reading) → fold heard (with_reader r w) fs ≡ with_reader r (fold heard w fs)
fold_reader [] w r = refl
fold_reader (f ∷ fs) w r = ap (λ (x : DepositLine). fold heard x fs) (heard_reader w r f) ∙ fold_reader fs (heard w f) r

doomed_reader : (b : Bool) (w : DepositLine) (r s : Reading) → with_reader s (doomed_if b (with_reader r w)) ≡ with_reader s (doomed_if b w)
doomed_reader true w r s = refl
doomed_reader false w r s = refl

-- one frame first, and then what the rest gives
pub heard_more : (w : DepositLine) (r : Reading) (f : Frame) (g : Given) → heard_all g (heard (with_reader r w) f) ≡ heard_all (given_on (what.Whole f) r g) w
heard_more w r f g =
    ap (λ (x : DepositLine). with_reader g.reader (doomed_if g.reader.bad x)) (ap (λ (x : DepositLine). fold heard x g.frames) (heard_reader w r f) ∙ fold_reader g.frames (heard w f) r)
    ∙ doomed_reader g.reader.bad (fold heard (heard w f) g.frames) r g.reader

pub heard_kept : (w : DepositLine) (r : Reading) (f : Frame) → (heard (with_reader r w) f).reader ≡ r
heard_kept w r f = ap (λ (x : DepositLine). x.reader) (heard_reader w r f)

-- what follows a frame makes of the line what all made of it
pub fed_on : (w m : DepositLine) (r : Reading) (f : Frame) (rest left : List ℕ) → given_of w.reader rest ≡ given_on (what.Whole f) r (given_of r left) → m ≡ heard (with_reader r w) f → fed left m ≡ fed rest w
fed_on w m r f rest left g e =
    ap (λ (x : DepositLine). fed left x) e
    ∙ ap (λ (x : Reading). heard_all (given_of x left) (heard (with_reader r w) f)) (heard_kept w r f)
    ∙ heard_more w r f (given_of r left)
    ∙ ap (λ (x : Given). heard_all x w) (sym g)

-- what a feed found, and the rest of the bytes fed to what it made of the line
pub fed_rest : (w m : DepositLine) (r : Reading) (f : Frame) (found : FedWhat) (used : ℕ) (rest left all : List ℕ) (first : DepositLine) → given_of w.reader rest ≡ given_on found r (given_of r (drop used rest)) → found ≡ what.Whole f →
    m ≡ heard (with_reader r w) f → left ≡ drop used rest → fed rest w ≡ fed all first → fed left m ≡ fed all first
fed_rest w m r f found used rest left all first given is made tail before =
    ap (λ (x : List ℕ). fed x m) tail
    ∙ fed_on w m r f rest (drop used rest) (given ∙ ap (λ (x : FedWhat). given_on x r (given_of r (drop used rest))) is) made
    ∙ before

pub place_rest : (w m : DepositLine) (r : Reading) (f : Frame) (used total : ℕ) (rest left : List ℕ) → m ≡ heard (with_reader r w) f → r.place ≡ w.reader.place + used → used ≤ length rest → left ≡ drop used rest →
    w.reader.place + length rest ≤ total → m.reader.place + length left ≤ total
place_rest w m r f used total rest left made at within tail before =
    let place : m.reader.place ≡ r.place = ap (λ (x : DepositLine). x.reader.place) made ∙ ap (λ (x : Reading). x.place) (heard_kept w r f) in
    let long : length left ≡ length rest - used = ap length tail ∙ length-drop used rest in
    omega (arith, place, long, at, within, before)

-- bytes that have room
pub room_few : (taken count : ℕ) → count ≤ MOST_ANSWER - taken → 0 < count → taken + count ≤ MOST_ANSWER
room_few taken count le lt = omega (arith, le, lt)
