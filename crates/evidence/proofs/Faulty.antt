-- Faulty: the line that is said to be at fault is the first that is.
use Rattle.std.proofs.Common.{◌≡◌, ℕ, zero, suc, ◌+◌, ◌-◌, ◌^◌, ◌≤◌, ◌<◌, true, false, List, [], ◌∷◌, ◌++◌, length, take, Option, Some, None, Result, Ok, Err, refl, sym, ap, subst, ◌∙◌, append_assoc, length-append, arith, inl, inr}
use Rattle.std.specs.Prelude.{codes, drop, nat_lt, replicate, if◌then◌else◌}
use Rattle.std.proofs.lemmas.List.{take_at}
use Rattle.hex.specs.Hex.{decode_pairs}
use Rattle.definitions.specs.declared.frames.TurnFrame.{TurnFrame}
use Rattle.definitions.specs.declared.frames.TurnFrame.TheVariants.{Commit}
use Rattle.definitions.specs.declared.findings.Kind.{Kind}
use Rattle.definitions.specs.declared.findings.Kind.TheVariants.{TwoCommits}
use Rattle.definitions.specs.declared.limits.TheConstants.{GREATEST_PLAYER, MOST_EVIDENCE_FRAMES}
use Rattle.definitions.specs.Lists.{EachIs}
use Rattle.commitment.specs.Spelling.{turn_frame_of}
use Rattle.text_lines.specs.Lines.{ended_lines_of, line_of, one_within}
use Rattle.text_lines.specs.Reading.{ends_at, fault_of, line_at, or_fault}
use Rattle.plain_lemmas.proofs.Tests.{chosen}
use Rattle.text_lines.proofs.Forms.{one_within-some}
use Rattle.text_lines.proofs.Steps.{bind_err, line_at_err, line_at_ok}
use Rattle.text_fields.specs.declared.fault.TextFault.{TextFault}
use Rattle.text_fields.specs.declared.fault.TextFault.TheVariants.{At}
use Rattle.evidence.specs.declared.exhibit.Exhibit.{Exhibit}
use Rattle.evidence.specs.Text.{FitsText, IsExhibit, exhibit_lines, frame_lines, head_lines}
use Rattle.evidence.specs.declared.head.Head.{Head}
use Rattle.evidence.specs.Reading.{exhibit_at, exhibit_fault, frame_at, frame_said, frames_at, head_at, is_end, kind_said, line_behind, said_by}
use Rattle.evidence.specs.Laws.{BeginsExhibit, IsFirstFault}
use Rattle.evidence.proofs.Again.{ended_lines_of-exhibit_text, head_again, said_again}
use Rattle.evidence.proofs.Steps.{frame_said-some}
use Rattle.evidence.proofs.Taken.{end_is, frame_takes, head_takes}

-- ---- faults

at_is : (m n : ℕ) → At m ≡ At n → m ≡ n
at_is m n e = cc

abbrev faulty_at : {A : Type 0} → ℕ → Result A TextFault
faulty_at n = Err (At n)

fault_number : {A : Type 0} (m n : ℕ) → faulty_at {A = A} m ≡ faulty_at {A = A} n → m ≡ n
fault_number m n e = cc

abbrev done : {A : Type 0} → A → Result A TextFault
done x = Ok x

no_fault : {A : Type 0} (x : A) (n : ℕ) → done x ≡ faulty_at n → ⊥
no_fault x n e = absurd cc

-- ---- an exhibit that begins with what was read

-- a frame that a text may have
abbrev plain_frame : TurnFrame
plain_frame = Commit 0 0 (record { bytes = replicate 32 0 })

abbrev plain_line : List ℕ
plain_line = codes "frame 02002500000000000000000000000000000000000000000000000000000000000000000000000000\n"

plain_said : frame_said plain_line ≡ Some plain_frame
unfolding frame_said decode_pairs turn_frame_of
plain_said = refl

plain_fits : FitsText plain_frame
plain_fits = (frame_said-some plain_line plain_frame plain_said).1

-- an exhibit of this player, turn and kind
abbrev plain : (q t : ℕ) → Kind → Exhibit
plain q t kind = record { player = q; turn = t; kind = kind; frames = plain_frame ∷ [] }

plain_is : (q t : ℕ) (kind : Kind) → q ≤ GREATEST_PLAYER → t < 2 ^ 32 → IsExhibit (plain q t kind)
plain_is q t kind player turn = record { player = player; turn = turn; some = omega arith; few = omega arith; frames = (plain_fits, tt) }

begins : (x : Exhibit) (lines rest : List (List ℕ)) → IsExhibit x → exhibit_lines x ≡ lines ++ rest → BeginsExhibit lines
begins x lines rest is same = (x, rest, is, ended_lines_of-exhibit_text x is ∙ same)

-- ---- lines in two parts

-- the lines up to the one at fault, which some exhibit begins with, and those from it on; the line is at fault whatever stands behind it
record IsFaultBehind (lines : List (List ℕ)) (n : ℕ) : Type 0 where
  front : List (List ℕ)
  back : List (List ℕ)
  lines_are : lines ≡ front ++ back
  number : n ≡ length front + 1
  before : BeginsExhibit front
  faulty : (line : List ℕ) (others : List (List ℕ)) → back ≡ line ∷ others → (rest : List (List ℕ)) → said_by (front ++ line ∷ rest) ≡ Err (At n)

-- no exhibit has lines that are at fault
no_exhibit : (lines : List (List ℕ)) (n : ℕ) → said_by lines ≡ Err (At n) → (x : Exhibit) → IsExhibit x → exhibit_lines x ≡ lines → ⊥
no_exhibit lines n e x is same = no_fault {A = Exhibit} x n (sym (said_again x is) ∙ ap said_by same ∙ e)

take_one : {A : Type 0} (front rest : List A) (x : A) → take (length front + 1) (front ++ x ∷ rest) ≡ front ++ x ∷ []
take_one front rest x =
    ap (take (length front + 1)) (sym (append_assoc front (x ∷ []) rest)) ∙ take_at (front ++ x ∷ []) rest (length front + 1) (length-append front (x ∷ []))

first_of : (lines : List (List ℕ)) (n : ℕ) → IsFaultBehind lines n → IsFirstFault lines n
first_of lines n w = go w.back refl
  where
    here : n - 1 ≡ length w.front
    here = let e = w.number in omega arith

    start : take (n - 1) lines ≡ w.front
    start = ap (λ (k : ℕ). take k lines) here ∙ ap (take (length w.front)) w.lines_are ∙ take_at w.front w.back (length w.front) refl

    all : length lines ≡ length w.front + length w.back
    all = ap length w.lines_are ∙ length-append w.front w.back

    go : (back : List (List ℕ)) → w.back ≡ back → IsFirstFault lines n
    go [] none = record {
      number = let e = w.number in let l = all in (omega arith, omega arith);
      before = subst BeginsExhibit (sym start) w.before;
      faulty = λ le. absurd (let e = w.number in let l = all in let b = ap length none in omega arith);
    }
    go (line ∷ others) some = record {
      number = let e = w.number in let l = all in (omega arith, omega arith);
      before = subst BeginsExhibit (sym start) w.before;
      faulty = λ le begun.
          let more : take n lines ≡ w.front ++ line ∷ [] =
          ap (λ (k : ℕ). take k lines) w.number ∙ ap (take (length w.front + 1)) (w.lines_are ∙ ap (λ (b : List (List ℕ)). w.front ++ b) some) ∙ take_one w.front others line in
          let lines_of : exhibit_lines begun.0 ≡ w.front ++ line ∷ begun.1 =
          sym (ended_lines_of-exhibit_text begun.0 begun.2) ∙ begun.3 ∙ ap (λ (ls : List (List ℕ)). ls ++ begun.1) more ∙ append_assoc w.front (line ∷ []) begun.1 in
          no_exhibit (w.front ++ line ∷ begun.1) n (w.faulty line others some begun.1) begun.0 begun.2 lines_of;
    }

-- ---- the lines before those of the frames

-- a fault of the head is the text's
head_fails : (lines : List (List ℕ)) (e : TextFault) → head_at 1 lines ≡ Err e → said_by lines ≡ Err e
unfolding said_by
head_fails lines e h = rw h refl

abbrev evidence_said : List ℕ → Option ℕ
evidence_said = one_within (codes "evidence") 1 1

abbrev player_said : List ℕ → Option ℕ
player_said = one_within (codes "player") 0 GREATEST_PLAYER

abbrev turn_said : List ℕ → Option ℕ
turn_said = one_within (codes "turn") 0 4294967295

-- a line of a number that was read, and those behind it
record TakesNumber (name : List ℕ) (low high : ℕ) (lines : List (List ℕ)) (v : ℕ × List (List ℕ)) : Type 0 where
  line : List ℕ
  lines_are : lines ≡ line ∷ v.1
  said : one_within name low high line ≡ Some v.0
  spelled : line ≡ line_of name (v.0 ∷ [])
  within : (low ≤ v.0) × (v.0 ≤ high)

number_read : (n : ℕ) (name : List ℕ) (low high : ℕ) (lines : List (List ℕ)) (v : ℕ × List (List ℕ)) → line_at (At n) (one_within name low high) lines ≡ Ok v → TakesNumber name low high lines v
number_read n name low high lines v e =
    let line = line_at_ok (At n) (one_within name low high) lines v.0 v.1 e in
    let number = one_within-some name low high line.0 v.0 line.2 in
    record { line = line.0; lines_are = line.1; said = line.2; spelled = number.0; within = (number.1, number.2) }

-- line 1 is at fault
first_fails : (lines : List (List ℕ)) (n : ℕ) → line_at (At 1) evidence_said lines ≡ Err (At n) → IsFaultBehind lines n
unfolding head_at
first_fails lines n h =
    let w = line_at_err (At 1) evidence_said lines (At n) h in
    let number = at_is 1 n w.0 in
    record {
      front = [];
      back = lines;
      lines_are = refl;
      number = sym number;
      before = begins (plain 0 0 TwoCommits) [] (exhibit_lines (plain 0 0 TwoCommits)) (plain_is 0 0 TwoCommits (omega arith) (omega arith)) refl;
      faulty = λ line others same rest. head_fails (line ∷ rest) (At n) (rw (w.1 line others same) (ap (λ (k : ℕ). Err (At k)) number));
    }

-- line 2 is
second_fails : (lines : List (List ℕ)) (n : ℕ) (a : ℕ × List (List ℕ)) → line_at (At 1) evidence_said lines ≡ Ok a → line_at (At 2) player_said a.1 ≡ Err (At n) → IsFaultBehind lines n
unfolding head_at
second_fails lines n a e h =
    let v = number_read 1 (codes "evidence") 1 1 lines a e in
    let w = line_at_err (At 2) player_said a.1 (At n) h in
    let number = at_is 2 n w.0 in
    let low = v.within.0 in
    let high = v.within.1 in
    let one : a.0 ≡ 1 = omega arith in
    let first : line_of (codes "evidence") (1 ∷ []) ≡ v.line = ap (λ (k : ℕ). line_of (codes "evidence") (k ∷ [])) (sym one) ∙ sym v.spelled in
    let x : Exhibit = plain 0 0 TwoCommits in
    record {
      front = v.line ∷ [];
      back = a.1;
      lines_are = v.lines_are;
      number = sym number;
      before = begins x (v.line ∷ []) (tail x) (plain_is 0 0 TwoCommits (omega arith) (omega arith)) (ap (λ (l : List ℕ). l ∷ tail x) first);
      faulty = λ line others same rest. head_fails (v.line ∷ line ∷ rest) (At n) (rw (v.said, w.1 line others same) (ap (λ (k : ℕ). Err (At k)) number));
    }
  where
    tail : Exhibit → List (List ℕ)
    tail x = drop 1 (exhibit_lines x)

-- line 3 is
third_fails : (lines : List (List ℕ)) (n : ℕ) (a b : ℕ × List (List ℕ)) → line_at (At 1) evidence_said lines ≡ Ok a → line_at (At 2) player_said a.1 ≡ Ok b → line_at (At 3) turn_said b.1 ≡ Err (At n) →
    IsFaultBehind lines n
unfolding head_at
third_fails lines n a b e f h =
    let v = number_read 1 (codes "evidence") 1 1 lines a e in
    let p = number_read 2 (codes "player") 0 GREATEST_PLAYER a.1 b f in
    let w = line_at_err (At 3) turn_said b.1 (At n) h in
    let number = at_is 3 n w.0 in
    let low = v.within.0 in
    let high = v.within.1 in
    let one : a.0 ≡ 1 = omega arith in
    let first : line_of (codes "evidence") (1 ∷ []) ≡ v.line = ap (λ (k : ℕ). line_of (codes "evidence") (k ∷ [])) (sym one) ∙ sym v.spelled in
    let x : Exhibit = plain b.0 0 TwoCommits in
    record {
      front = v.line ∷ p.line ∷ [];
      back = b.1;
      lines_are = v.lines_are ∙ ap (λ (ls : List (List ℕ)). v.line ∷ ls) p.lines_are;
      number = sym number;
      before = begins x (v.line ∷ p.line ∷ []) (tail x) (plain_is b.0 0 TwoCommits p.within.1 (omega arith))
          (ap (λ (l : List ℕ). l ∷ line_of (codes "player") (b.0 ∷ []) ∷ tail x) first ∙ ap (λ (l : List ℕ). v.line ∷ l ∷ tail x) (sym p.spelled));
      faulty = λ line others same rest. head_fails (v.line ∷ p.line ∷ line ∷ rest) (At n) (rw (v.said, p.said, w.1 line others same) (ap (λ (k : ℕ). Err (At k)) number));
    }
  where
    tail : Exhibit → List (List ℕ)
    tail x = drop 2 (exhibit_lines x)

-- line 4 is
fourth_fails : (lines : List (List ℕ)) (n : ℕ) (a b c : ℕ × List (List ℕ)) → line_at (At 1) evidence_said lines ≡ Ok a → line_at (At 2) player_said a.1 ≡ Ok b → line_at (At 3) turn_said b.1 ≡ Ok c →
    line_at (At 4) kind_said c.1 ≡ Err (At n) → IsFaultBehind lines n
unfolding head_at
fourth_fails lines n a b c e f g h =
    let v = number_read 1 (codes "evidence") 1 1 lines a e in
    let p = number_read 2 (codes "player") 0 GREATEST_PLAYER a.1 b f in
    let t = number_read 3 (codes "turn") 0 4294967295 b.1 c g in
    let w = line_at_err (At 4) kind_said c.1 (At n) h in
    let number = at_is 4 n w.0 in
    let low = v.within.0 in
    let high = v.within.1 in
    let one : a.0 ≡ 1 = omega arith in
    let first : line_of (codes "evidence") (1 ∷ []) ≡ v.line = ap (λ (k : ℕ). line_of (codes "evidence") (k ∷ [])) (sym one) ∙ sym v.spelled in
    let x : Exhibit = plain b.0 c.0 TwoCommits in
    let most = t.within.1 in
    record {
      front = v.line ∷ p.line ∷ t.line ∷ [];
      back = c.1;
      lines_are = v.lines_are ∙ ap (λ (ls : List (List ℕ)). v.line ∷ ls) (p.lines_are ∙ ap (λ (ls : List (List ℕ)). p.line ∷ ls) t.lines_are);
      number = sym number;
      before = begins x (v.line ∷ p.line ∷ t.line ∷ []) (tail x) (plain_is b.0 c.0 TwoCommits p.within.1 (omega arith))
          (ap (λ (l : List ℕ). l ∷ line_of (codes "player") (b.0 ∷ []) ∷ line_of (codes "turn") (c.0 ∷ []) ∷ tail x) first
          ∙ ap (λ (l : List ℕ). v.line ∷ l ∷ line_of (codes "turn") (c.0 ∷ []) ∷ tail x) (sym p.spelled) ∙ ap (λ (l : List ℕ). v.line ∷ p.line ∷ l ∷ tail x) (sym t.spelled));
      faulty = λ line others same rest. head_fails (v.line ∷ p.line ∷ t.line ∷ line ∷ rest) (At n) (rw (v.said, p.said, t.said, w.1 line others same) (ap (λ (k : ℕ). Err (At k)) number));
    }
  where
    tail : Exhibit → List (List ℕ)
    tail x = drop 3 (exhibit_lines x)

head_behind : (lines : List (List ℕ)) (n : ℕ) → head_at 1 lines ≡ Err (At n) → IsFaultBehind lines n
unfolding head_at
head_behind lines n h =
    elim (bind_err (line_at (At 1) evidence_said lines) _ (At n) h) [
      | inl fails ↦ first_fails lines n fails
      | inr a ↦
          elim (bind_err (line_at (At 2) player_said a.0.1) _ (At n) a.2) [
            | inl fails ↦ second_fails lines n a.0 a.1 fails
            | inr b ↦
                elim (bind_err (line_at (At 3) turn_said b.0.1) _ (At n) b.2) [
                  | inl fails ↦ third_fails lines n a.0 b.0 a.1 b.1 fails
                  | inr c ↦
                      elim (bind_err (line_at (At 4) kind_said c.0.1) _ (At n) c.2) [
                        | inl fails ↦ fourth_fails lines n a.0 b.0 c.0 a.1 b.1 c.1 fails
                        | inr d ↦ absurd (no_fault {A = Head × List (List ℕ)} _ n d.2)
                      ]
                ]
          ]
    ]

-- ---- the lines of the frames, and `end`

-- behind so many frames: the lines up to the one at fault, which some frames and `end` begin with, and those from it on
record IsFrameFault (count : ℕ) (lines : List (List ℕ)) (n : ℕ) : Type 0 where
  front : List (List ℕ)
  back : List (List ℕ)
  lines_are : lines ≡ front ++ back
  number : n ≡ line_behind count + length front
  frames : List TurnFrame
  more : List (List ℕ)
  begun : frame_lines frames ≡ front ++ more
  some : 0 < count + length frames
  few : count + length frames ≤ MOST_EVIDENCE_FRAMES
  fits : EachIs FitsText frames
  faulty : (line : List ℕ) (others : List (List ℕ)) → back ≡ line ∷ others → (rest : List (List ℕ)) → frames_at count (front ++ line ∷ rest) ≡ Err (At n)

-- some frames behind so many
record SomeFrames (count : ℕ) : Type 0 where
  frames : List TurnFrame
  some : 0 < count + length frames
  few : count + length frames ≤ MOST_EVIDENCE_FRAMES
  fits : EachIs FitsText frames

some_frames : (count : ℕ) → count ≤ MOST_EVIDENCE_FRAMES → SomeFrames count
some_frames zero few = record { frames = plain_frame ∷ []; some = omega arith; few = omega arith; fits = (plain_fits, tt) }
some_frames (suc count) few = record { frames = []; some = omega arith; few = omega arith; fits = tt }

-- the next line is missing, or is no frame's
here_fails : (count : ℕ) (lines : List (List ℕ)) (n : ℕ) → count ≤ MOST_EVIDENCE_FRAMES → line_behind count ≡ n
    → ((line : List ℕ) (others : List (List ℕ)) → lines ≡ line ∷ others → (rest : List (List ℕ)) → frames_at count (line ∷ rest) ≡ Err (At n)) → IsFrameFault count lines n
here_fails count lines n few number faulty =
    let s = some_frames count few in
    record {
      front = [];
      back = lines;
      lines_are = refl;
      number = omega arith;
      frames = s.frames;
      more = frame_lines s.frames;
      begun = refl;
      some = s.some;
      few = s.few;
      fits = s.fits;
      faulty = faulty;
    }

-- a line stands behind `end`
ended_fails : (count : ℕ) (line : List ℕ) (lines : List (List ℕ)) (n : ℕ) → count ≤ MOST_EVIDENCE_FRAMES → is_end count line ≡ true →
    ends_at {E = TextFault} {A = TurnFrame} (At (line_behind (suc count))) lines ≡ Err (At n) → IsFrameFault count (line ∷ lines) n
unfolding frames_at
ended_fails count line [] n few is h = absurd cc
ended_fails count line (next ∷ lines) n few is h =
    let end = end_is count line is in
    let some = end.1 in
    let number : line_behind (suc count) ≡ n = fault_number {A = List TurnFrame} (line_behind (suc count)) n h in
    record {
      front = line ∷ [];
      back = next ∷ lines;
      lines_are = refl;
      number = omega arith;
      frames = [];
      more = [];
      begun = ap (λ (l : List ℕ). l ∷ []) (sym end.0);
      some = omega arith;
      few = omega arith;
      fits = tt;
      faulty = λ other others same rest. rw is (ap (λ (k : ℕ). Err (At k)) number);
    }

-- a frame more, in front of lines that are at fault
more_fails : (count : ℕ) (line : List ℕ) (lines : List (List ℕ)) (n : ℕ) (f : TurnFrame) → is_end count line ≡ false → frame_at count line ≡ Ok f → IsFrameFault (suc count) lines n → IsFrameFault count (line ∷ lines) n
unfolding frames_at
more_fails count line lines n f other read w =
    let frame = frame_takes count line f read in
    let number = w.number in
    let some = w.some in
    let few = w.few in
    record {
      front = line ∷ w.front;
      back = w.back;
      lines_are = ap (λ (ls : List (List ℕ)). line ∷ ls) w.lines_are;
      number = omega arith;
      frames = f ∷ w.frames;
      more = w.more;
      begun = ap (λ (l : List ℕ). l ∷ frame_lines w.frames) (sym frame.1) ∙ ap (λ (ls : List (List ℕ)). line ∷ ls) w.begun;
      some = omega arith;
      few = omega arith;
      fits = (frame.2, w.fits);
      faulty = λ next others same rest. rw (other, read, w.faulty next others same rest) refl;
    }

-- a line that is no frame's has its own number
frame_number : (count n : ℕ) (line : List ℕ) → frame_at count line ≡ Err (At n) → line_behind count ≡ n
unfolding frame_at
frame_number count n line h = go (if nat_lt count MOST_EVIDENCE_FRAMES then frame_said line else None) h
  where
    go : (o : Option TurnFrame) → or_fault (At (line_behind count)) o ≡ Err (At n) → line_behind count ≡ n
    go None e = fault_number {A = TurnFrame} (line_behind count) n e
    go (Some f) e = absurd cc

no_frame : (count n : ℕ) (line : List ℕ) (lines : List (List ℕ)) → is_end count line ≡ false → frame_at count line ≡ Err (At n) → (next : List ℕ) (others : List (List ℕ)) → line ∷ lines ≡ next ∷ others →
    (rest : List (List ℕ)) → frames_at count (next ∷ rest) ≡ Err (At n)
unfolding frames_at
no_frame count n line lines other fails next others same rest =
    let head : line ≡ next = cc in
    rw (← head, other, fails) refl

frames_behind : (count : ℕ) (lines : List (List ℕ)) (n : ℕ) → count ≤ MOST_EVIDENCE_FRAMES → frames_at count lines ≡ Err (At n) → IsFrameFault count lines n
unfolding frames_at
frames_behind count [] n few h = here_fails count [] n few (fault_number {A = List TurnFrame} (line_behind count) n h) (λ line others same. absurd cc)
frames_behind count (line ∷ lines) n few h =
    elim (chosen (is_end count line) _ _ _ h) [
      | inl last ↦ ended_fails count line lines n few last.0 last.1
      | inr more ↦
          elim (bind_err (frame_at count line) _ (At n) more.1) [
            | inl fails ↦ here_fails count (line ∷ lines) n few (frame_number count n line fails) (no_frame count n line lines more.0 fails)
            | inr a ↦
                elim (bind_err (frames_at (suc count) lines) _ (At n) a.2) [
                  | inl fails ↦
                      let lt = (frame_takes count line a.0 a.1).0 in
                      more_fails count line lines n a.0 more.0 a.1 (frames_behind (suc count) lines n (omega arith) fails)
                  | inr b ↦ absurd (no_fault {A = List TurnFrame} (a.0 ∷ b.0) n b.2)
                ]
          ]
    ]

-- ---- all lines

frames_fault : (lines : List (List ℕ)) (n : ℕ) (h : Head × List (List ℕ)) → head_at 1 lines ≡ Ok h → frames_at 0 h.1 ≡ Err (At n) → IsFaultBehind lines n
unfolding said_by
frames_fault lines n h e fails =
    let head = head_takes 1 lines h e in
    let w = frames_behind 0 h.1 n (omega arith) fails in
    let q : ℕ = h.0.player in
    let t : ℕ = h.0.turn in
    let first : List (List ℕ) = head_lines 1 q t h.0.kind in
    let x : Exhibit = record { player = q; turn = t; kind = h.0.kind; frames = w.frames } in
    let number = w.number in
    let some = w.some in
    let few = w.few in
    let is : IsExhibit x = record { player = head.player; turn = head.turn; some = omega arith; few = omega arith; frames = w.fits } in
    let len = length-append first w.front in
    record {
      front = first ++ w.front;
      back = w.back;
      lines_are = head.spelled ∙ ap (λ (ls : List (List ℕ)). first ++ ls) w.lines_are ∙ sym (append_assoc first w.front w.back);
      number = omega arith;
      before = begins x (first ++ w.front) w.more is (ap (λ (ls : List (List ℕ)). first ++ ls) w.begun ∙ sym (append_assoc first w.front w.more));
      faulty = λ line others same rest.
          let again : head_at 1 (first ++ (w.front ++ line ∷ rest)) ≡ Ok (h.0, w.front ++ line ∷ rest) = head_again 1 q t h.0.kind (w.front ++ line ∷ rest) (omega arith) head.player head.turn in
          rw (append_assoc first w.front (line ∷ rest), again, w.faulty line others same rest) refl;
    }

fault_behind : (lines : List (List ℕ)) (n : ℕ) → said_by lines ≡ Err (At n) → IsFaultBehind lines n
unfolding said_by
fault_behind lines n e =
    elim (bind_err (head_at 1 lines) _ (At n) e) [
      | inl fails ↦ head_behind lines n fails
      | inr h ↦
          elim (bind_err (frames_at 0 h.0.1) _ (At n) h.2) [
            | inl fails ↦ frames_fault lines n h.0 h.1 fails
            | inr f ↦ absurd (no_fault {A = Exhibit} (record { player = h.0.0.player; turn = h.0.0.turn; kind = h.0.0.kind; frames = f.0 }) n f.2)
          ]
    ]

pub first_faults : (text : List ℕ) (n : ℕ) → exhibit_fault text ≡ Some (At n) → IsFirstFault (ended_lines_of text) n
unfolding exhibit_at
first_faults text n e = first_of (ended_lines_of text) n (fault_behind (ended_lines_of text) n (fault_said (said_by (ended_lines_of text)) e))
  where
    fault_said : (r : Result Exhibit TextFault) → fault_of r ≡ Some (At n) → r ≡ Err (At n)
    fault_said (Ok x) h = absurd cc
    fault_said (Err d) h = let same : d ≡ At n = cc in ap (λ (c : TextFault). Err c) same
