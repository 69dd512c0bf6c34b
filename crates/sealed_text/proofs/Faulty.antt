-- Faulty: the line that is said to be at fault is the first that is.
use Rattle.std.proofs.Common.{◌≡◌, ℕ, zero, suc, ◌+◌, ◌-◌, ◌≤◌, ◌<◌, true, false, List, [], ◌∷◌, ◌++◌, length, take, Option, Some, None, Result, Ok, Err, refl, sym, ap, subst, ◌∙◌, append_assoc, length-append, arith, inl, inr}
use Rattle.std.specs.Prelude.{codes, nat_lt, replicate, if◌then◌else◌}
use Rattle.std.proofs.lemmas.List.{take_at}
use Rattle.hex.specs.Hex.{IsBytes, decode_pairs}
use Rattle.definitions.specs.declared.frames.TurnFrame.{TurnFrame}
use Rattle.definitions.specs.declared.frames.TurnFrame.TheVariants.{Commit}
use Rattle.definitions.specs.Lists.{EachIs}
use Rattle.definitions.specs.World.{Game}
use Rattle.commitment.specs.Spelling.{turn_frame_of}
use Rattle.text_lines.specs.Lines.{ended_lines_of}
use Rattle.text_lines.specs.Reading.{fault_of, formed, or_fault}
use Rattle.text_lines.proofs.Steps.{bind_err, line_at_err}
use Rattle.text_fields.specs.declared.fault.TextFault.{TextFault}
use Rattle.text_fields.specs.declared.fault.TextFault.TheVariants.{At}
use Rattle.plain_lemmas.proofs.Tests.{chosen}
use Rattle.evidence.specs.declared.head.Head.{Head}
use Rattle.evidence.specs.Text.{FitsText, end_line, head_lines}
use Rattle.evidence.specs.Reading.{frame_said, head_at, is_end}
use Rattle.evidence.proofs.Again.{head_again}
use Rattle.evidence.proofs.Steps.{frame_said-some}
use Rattle.evidence.proofs.Taken.{end_is, head_takes}
use Rattle.seal_keys.specs.Seals.{seal_len}
use Rattle.sealed_evidence.specs.declared.sealed.SealedExhibit.{SealedExhibit}
use Rattle.sealed_text.specs.declared.limits.TheConstants.{MOST_SEALED_FRAMES}
use Rattle.sealed_text.specs.Text.{FitsSeal, IsSealed, pair_lines, seal_line, sealed_lines}
use Rattle.sealed_text.specs.Reading.{frame_at, line_after, pairs_at, said_by, seal_at, seal_said, sealed_fault}
use Rattle.sealed_text.specs.Laws.{BeginsSealed, IsFirstFault}
use Rattle.sealed_text.proofs.Again.{ended_lines_of-sealed_text, said_again}
use Rattle.sealed_text.proofs.Heads.{fault_number, head_behind, no_fault}
use Rattle.sealed_text.proofs.Loops.{frame_bad, seal_bad}
use Rattle.sealed_text.proofs.Steps.{seal_said-some}
use Rattle.sealed_text.proofs.Taken.{frame_takes}

-- ---- a frame and a seal that a text may have

abbrev plain_frame : TurnFrame
plain_frame = Commit 0 0 (record { bytes = replicate 32 0 })

abbrev plain_line : List ℕ
plain_line = codes "frame 02002500000000000000000000000000000000000000000000000000000000000000000000000000\n"

plain_said : frame_said plain_line ≡ Some plain_frame
unfolding frame_said decode_pairs turn_frame_of
plain_said = refl

plain_fits : FitsText plain_frame
plain_fits = (frame_said-some plain_line plain_frame plain_said).1

abbrev zeros : ℕ → List ℕ
zeros n = replicate n 0

zeros_long : (n : ℕ) → length (zeros n) ≡ n
zeros_long zero = refl
zeros_long (suc n) = ap suc (zeros_long n)

zeros_fit : (n : ℕ) → IsBytes (zeros n)
zeros_fit zero i = omega arith
zeros_fit (suc n) zero = omega arith
zeros_fit (suc n) (suc i) = zeros_fit n i

seal_fits : (n : ℕ) → FitsSeal n (zeros n)
seal_fits n = (zeros_long n, zeros_fit n)

-- ---- lines in two parts

-- The lines up to the one at fault, with which some sealed exhibit begins, and those from it on.
-- The line is at fault whatever follows it.
record IsFaultBehind (game : Game) (lines : List (List ℕ)) (m : ℕ) : Type 0 where
  front : List (List ℕ)
  back : List (List ℕ)
  lines_are : lines ≡ front ++ back
  number : m ≡ length front + 1
  before : BeginsSealed game front
  faulty : (line : List ℕ) (others : List (List ℕ)) → back ≡ line ∷ others → (rest : List (List ℕ)) → said_by (seal_len game) (front ++ line ∷ rest) ≡ Err (At m)

begins : (game : Game) (x : SealedExhibit) (lines rest : List (List ℕ)) → IsSealed game x → sealed_lines x ≡ lines ++ rest → BeginsSealed game lines
begins game x lines rest is same = (x, rest, is, ended_lines_of-sealed_text game x is ∙ same)

-- no sealed exhibit has lines that are at fault
no_sealed : (game : Game) (lines : List (List ℕ)) (m : ℕ) → said_by (seal_len game) lines ≡ Err (At m) → (x : SealedExhibit) → IsSealed game x → sealed_lines x ≡ lines → ⊥
no_sealed game lines m e x is same = no_fault {A = SealedExhibit} x m (sym (said_again game x is) ∙ ap (said_by (seal_len game)) same ∙ e)

take_one : {A : Type 0} (front rest : List A) (x : A) → take (length front + 1) (front ++ x ∷ rest) ≡ front ++ x ∷ []
take_one front rest x =
    ap (take (length front + 1)) (sym (append_assoc front (x ∷ []) rest)) ∙ take_at (front ++ x ∷ []) rest (length front + 1) (length-append front (x ∷ []))

first_of : (game : Game) (lines : List (List ℕ)) (m : ℕ) → IsFaultBehind game lines m → IsFirstFault game lines m
first_of game lines m w = go w.back refl
  where
    here : m - 1 ≡ length w.front
    here = let e = w.number in omega arith

    start : take (m - 1) lines ≡ w.front
    start = ap (λ (k : ℕ). take k lines) here ∙ ap (take (length w.front)) w.lines_are ∙ take_at w.front w.back (length w.front) refl

    all : length lines ≡ length w.front + length w.back
    all = ap length w.lines_are ∙ length-append w.front w.back

    go : (back : List (List ℕ)) → w.back ≡ back → IsFirstFault game lines m
    go [] none = record {
      number = let e = w.number in let l = all in (omega arith, omega arith);
      before = subst (BeginsSealed game) (sym start) w.before;
      faulty = λ le. absurd (let e = w.number in let l = all in let b = ap length none in omega arith);
    }
    go (line ∷ others) some = record {
      number = let e = w.number in let l = all in (omega arith, omega arith);
      before = subst (BeginsSealed game) (sym start) w.before;
      faulty = λ le begun.
          let more : take m lines ≡ w.front ++ line ∷ [] =
          ap (λ (k : ℕ). take k lines) w.number ∙ ap (take (length w.front + 1)) (w.lines_are ∙ ap (λ (b : List (List ℕ)). w.front ++ b) some) ∙ take_one w.front others line in
          let lines_of : sealed_lines begun.0 ≡ w.front ++ line ∷ begun.1 =
          sym (ended_lines_of-sealed_text game begun.0 begun.2) ∙ begun.3 ∙ ap (λ (ls : List (List ℕ)). ls ++ begun.1) more ∙ append_assoc w.front (line ∷ []) begun.1 in
          no_sealed game (w.front ++ line ∷ begun.1) m (w.faulty line others some begun.1) begun.0 begun.2 lines_of;
    }

-- ---- the lines of the frames and seals, and `end`

-- After so many frames and their seals: the lines up to the one at fault, with which some frames,
-- their seals and `end` begin, and those from it on.
record IsPairFault (n count : ℕ) (lines : List (List ℕ)) (m : ℕ) : Type 0 where
  front : List (List ℕ)
  back : List (List ℕ)
  lines_are : lines ≡ front ++ back
  number : m ≡ line_after count + length front
  frames : List TurnFrame
  seals : List (List ℕ)
  more : List (List ℕ)
  begun : pair_lines frames seals ++ (end_line ∷ []) ≡ front ++ more
  some : 0 < count + length frames
  few : count + length frames ≤ MOST_SEALED_FRAMES
  each : length seals ≡ length frames
  frames_fit : EachIs FitsText frames
  seals_fit : EachIs (FitsSeal n) seals
  faulty : (line : List ℕ) (others : List (List ℕ)) → back ≡ line ∷ others → (rest : List (List ℕ)) → pairs_at n count (front ++ line ∷ rest) ≡ Err (At m)

-- the next line is missing, or is no frame's
here_fails : (n count : ℕ) (lines : List (List ℕ)) (m : ℕ) → count ≤ MOST_SEALED_FRAMES → line_after count ≡ m
    → ((line : List ℕ) (others : List (List ℕ)) → lines ≡ line ∷ others → (rest : List (List ℕ)) → pairs_at n count (line ∷ rest) ≡ Err (At m)) → IsPairFault n count lines m
here_fails n zero lines m few number faulty = record {
  front = [];
  back = lines;
  lines_are = refl;
  number = omega arith;
  frames = plain_frame ∷ [];
  seals = zeros n ∷ [];
  more = pair_lines (plain_frame ∷ []) (zeros n ∷ []) ++ (end_line ∷ []);
  begun = refl;
  some = omega arith;
  few = omega arith;
  each = refl;
  frames_fit = (plain_fits, tt);
  seals_fit = (seal_fits n, tt);
  faulty = faulty;
}
here_fails n (suc count) lines m few number faulty = record {
  front = [];
  back = lines;
  lines_are = refl;
  number = omega arith;
  frames = [];
  seals = [];
  more = end_line ∷ [];
  begun = refl;
  some = omega arith;
  few = omega arith;
  each = refl;
  frames_fit = tt;
  seals_fit = tt;
  faulty = faulty;
}

-- a line follows `end`
ended_fails : (n count : ℕ) (line next : List ℕ) (lines : List (List ℕ)) (m : ℕ) → count ≤ MOST_SEALED_FRAMES → is_end count line ≡ true → suc (line_after count) ≡ m
    → IsPairFault n count (line ∷ next ∷ lines) m
unfolding pairs_at
ended_fails n count line next lines m few is number =
    let end = end_is count line is in
    let some = end.1 in
    record {
      front = line ∷ [];
      back = next ∷ lines;
      lines_are = refl;
      number = omega arith;
      frames = [];
      seals = [];
      more = [];
      begun = ap (λ (l : List ℕ). l ∷ []) (sym end.0);
      some = omega arith;
      few = omega arith;
      each = refl;
      frames_fit = tt;
      seals_fit = tt;
      faulty = λ other others same rest. rw is (ap (λ (k : ℕ). Err (At k)) number);
    }

-- the line after a frame's is missing, or is no seal's
sealless_fails : (n count : ℕ) (line : List ℕ) (after : List (List ℕ)) (f : TurnFrame) (m : ℕ) → is_end count line ≡ false → frame_at count line ≡ Ok f → seal_at n count after ≡ Err (At m)
    → IsPairFault n count (line ∷ after) m
sealless_fails n count line after f m other read h =
    let frame = frame_takes count line f read in
    let lt = frame.0 in
    let w = line_at_err (At (suc (line_after count))) (seal_said n) after (At m) h in
    let number : suc (line_after count) ≡ m = cc (w.0) in
    record {
      front = line ∷ [];
      back = after;
      lines_are = refl;
      number = omega arith;
      frames = f ∷ [];
      seals = zeros n ∷ [];
      more = seal_line (zeros n) ∷ end_line ∷ [];
      begun = ap (λ (l : List ℕ). l ∷ seal_line (zeros n) ∷ end_line ∷ []) (sym frame.1);
      some = omega arith;
      few = omega arith;
      each = refl;
      frames_fit = (frame.2, tt);
      seals_fit = (seal_fits n, tt);
      faulty = λ next others same rest.
          let bad : seal_at n count (next ∷ rest) ≡ Err (At m) = rw (w.1 next others same) (ap (λ (e : TextFault). Err e) w.0) in
          seal_bad n count line (next ∷ rest) f m other read bad;
    }

-- a frame and its seal more, before lines that are at fault
more_fails : (n count : ℕ) (line next : List ℕ) (lines : List (List ℕ)) (m : ℕ) (f : TurnFrame) (s : List ℕ) → is_end count line ≡ false → frame_at count line ≡ Ok f → seal_said n next ≡ Some s
    → IsPairFault n (suc count) lines m → IsPairFault n count (line ∷ next ∷ lines) m
unfolding pairs_at
more_fails n count line next lines m f s other read said w =
    let frame = frame_takes count line f read in
    let seal = seal_said-some n next s said in
    let number = w.number in
    let some = w.some in
    let few = w.few in
    let each = w.each in
    let rest : List (List ℕ) = pair_lines w.frames w.seals ++ (end_line ∷ []) in
    record {
      front = line ∷ next ∷ w.front;
      back = w.back;
      lines_are = ap (λ (ls : List (List ℕ)). line ∷ next ∷ ls) w.lines_are;
      number = omega arith;
      frames = f ∷ w.frames;
      seals = s ∷ w.seals;
      more = w.more;
      begun = ap (λ (l : List ℕ). l ∷ seal_line s ∷ rest) (sym frame.1) ∙ ap (λ (l : List ℕ). line ∷ l ∷ rest) (sym seal.0) ∙ ap (λ (ls : List (List ℕ)). line ∷ next ∷ ls) w.begun;
      some = omega arith;
      few = omega arith;
      each = omega (arith, each);
      frames_fit = (frame.2, w.frames_fit);
      seals_fit = (seal.1, w.seals_fit);
      faulty = λ another others same rest. rw (other, read, said, w.faulty another others same rest) refl;
    }

-- a line that is no frame's has its own number
frame_number : (count m : ℕ) (line : List ℕ) → frame_at count line ≡ Err (At m) → line_after count ≡ m
unfolding frame_at
frame_number count m line h = go (if nat_lt count MOST_SEALED_FRAMES then frame_said line else None) h
  where
    go : (o : Option TurnFrame) → or_fault (At (line_after count)) o ≡ Err (At m) → line_after count ≡ m
    go None e = fault_number {A = TurnFrame} (line_after count) m e
    go (Some f) e = absurd cc

no_frame : (n count m : ℕ) (line : List ℕ) (lines : List (List ℕ)) → is_end count line ≡ false → frame_at count line ≡ Err (At m) → (next : List ℕ) (others : List (List ℕ)) → line ∷ lines ≡ next ∷ others
    → (rest : List (List ℕ)) → pairs_at n count (next ∷ rest) ≡ Err (At m)
no_frame n count m line lines other fails next others same rest =
    let head : line ≡ next = cc in
    ap (λ (l : List ℕ). pairs_at n count (l ∷ rest)) (sym head) ∙ frame_bad n count line rest m other fails

-- a line that is no seal's is no first line of a seal either
formed_fails : (d e : TextFault) (o : Option (List ℕ)) (lines : List (List ℕ)) → or_fault d o ≡ Err e → formed d o lines ≡ Err e
formed_fails d e None lines h = let same : d ≡ e = cc in ap (λ (k : TextFault). Err k) same
formed_fails d e (Some s) lines h = absurd cc

or_fault_some : (d : TextFault) (o : Option (List ℕ)) (s : List ℕ) → or_fault d o ≡ Ok s → o ≡ Some s
or_fault_some d None s h = absurd cc
or_fault_some d (Some x) s h = let same : x ≡ s = cc in ap (λ (k : List ℕ). Some k) same

pairs_behind : (n count : ℕ) (lines : List (List ℕ)) (m : ℕ) → count ≤ MOST_SEALED_FRAMES → pairs_at n count lines ≡ Err (At m) → IsPairFault n count lines m
unfolding pairs_at
pairs_behind n count [] m few h =
    here_fails n count [] m few (fault_number {A = List TurnFrame × List (List ℕ)} (line_after count) m h) (λ line others same. absurd cc)
pairs_behind n count (line ∷ []) m few h =
    elim (chosen (is_end count line) _ _ _ h) [
      | inl last ↦ absurd (no_fault {A = List TurnFrame × List (List ℕ)} ([], []) m last.1)
      | inr more ↦
          elim (bind_err (frame_at count line) _ (At m) more.1) [
            | inl fails ↦ here_fails n count (line ∷ []) m few (frame_number count m line fails) (no_frame n count m line [] more.0 fails)
            | inr a ↦
                let number : suc (line_after count) ≡ m = fault_number {A = List TurnFrame × List (List ℕ)} (suc (line_after count)) m a.2 in
                sealless_fails n count line [] a.0 m more.0 a.1 (ap (λ (k : ℕ). Err (At k)) number)
          ]
    ]
pairs_behind n count (line ∷ next ∷ lines) m few h =
    elim (chosen (is_end count line) _ _ _ h) [
      | inl last ↦
          ended_fails n count line next lines m few last.0 (fault_number {A = List TurnFrame × List (List ℕ)} (suc (line_after count)) m last.1)
      | inr more ↦
          elim (bind_err (frame_at count line) _ (At m) more.1) [
            | inl fails ↦ here_fails n count (line ∷ next ∷ lines) m few (frame_number count m line fails) (no_frame n count m line (next ∷ lines) more.0 fails)
            | inr a ↦
                elim (bind_err (or_fault (At (suc (line_after count))) (seal_said n next)) _ (At m) a.2) [
                  | inl fails ↦
                      sealless_fails n count line (next ∷ lines) a.0 m more.0 a.1 (formed_fails (At (suc (line_after count))) (At m) (seal_said n next) lines fails)
                  | inr s ↦
                      elim (bind_err (pairs_at n (suc count) lines) _ (At m) s.2) [
                        | inl fails ↦
                            let lt = (frame_takes count line a.0 a.1).0 in
                            more_fails n count line next lines m a.0 s.0 more.0 a.1 (or_fault_some (At (suc (line_after count))) (seal_said n next) s.0 s.1)
                            (pairs_behind n (suc count) lines m (omega arith) fails)
                        | inr b ↦ absurd (no_fault {A = List TurnFrame × List (List ℕ)} _ m b.2)
                      ]
                ]
          ]
    ]

-- ---- all lines

head_fault : (game : Game) (lines : List (List ℕ)) (m : ℕ) → head_at 2 lines ≡ Err (At m) → IsFaultBehind game lines m
unfolding said_by
head_fault game lines m h =
    let w = head_behind 2 lines m h in
    let n : ℕ = seal_len game in
    let x : SealedExhibit = record { exhibit = record { player = w.player; turn = w.turn; kind = w.kind; frames = plain_frame ∷ [] }; seals = zeros n ∷ [] } in
    let is : IsSealed game x = record {
      player = w.player_fits;
      turn = w.turn_fits;
      some = omega arith;
      few = omega arith;
      frames = (plain_fits, tt);
      count = refl;
      seals = (seal_fits n, tt);
    } in
    let pairs : List (List ℕ) = pair_lines (plain_frame ∷ []) (zeros n ∷ []) ++ (end_line ∷ []) in
    record {
      front = w.front;
      back = w.back;
      lines_are = w.lines_are;
      number = w.number;
      before = begins game x w.front (w.more ++ pairs) is (ap (λ (ls : List (List ℕ)). ls ++ pairs) w.begun ∙ append_assoc w.front w.more pairs);
      faulty = λ line others same rest. rw (w.faulty line others same rest) refl;
    }

pairs_fault : (game : Game) (lines : List (List ℕ)) (m : ℕ) (h : Head × List (List ℕ)) → head_at 2 lines ≡ Ok h → pairs_at (seal_len game) 0 h.1 ≡ Err (At m) → IsFaultBehind game lines m
unfolding said_by
pairs_fault game lines m h e fails =
    let head = head_takes 2 lines h e in
    let w = pairs_behind (seal_len game) 0 h.1 m (omega arith) fails in
    let q : ℕ = h.0.player in
    let t : ℕ = h.0.turn in
    let first : List (List ℕ) = head_lines 2 q t h.0.kind in
    let x : SealedExhibit = record { exhibit = record { player = q; turn = t; kind = h.0.kind; frames = w.frames }; seals = w.seals } in
    let number = w.number in
    let some = w.some in
    let few = w.few in
    let is : IsSealed game x = record {
      player = head.player;
      turn = head.turn;
      some = omega arith;
      few = omega arith;
      frames = w.frames_fit;
      count = w.each;
      seals = w.seals_fit;
    } in
    let len = length-append first w.front in
    record {
      front = first ++ w.front;
      back = w.back;
      lines_are = head.spelled ∙ ap (λ (ls : List (List ℕ)). first ++ ls) w.lines_are ∙ sym (append_assoc first w.front w.back);
      number = omega arith;
      before = begins game x (first ++ w.front) w.more is (ap (λ (ls : List (List ℕ)). first ++ ls) w.begun ∙ sym (append_assoc first w.front w.more));
      faulty = λ line others same rest.
          let again : head_at 2 (first ++ (w.front ++ line ∷ rest)) ≡ Ok (h.0, w.front ++ line ∷ rest) = head_again 2 q t h.0.kind (w.front ++ line ∷ rest) (omega arith) head.player head.turn in
          rw (append_assoc first w.front (line ∷ rest), again, w.faulty line others same rest) refl;
    }

fault_behind : (game : Game) (lines : List (List ℕ)) (m : ℕ) → said_by (seal_len game) lines ≡ Err (At m) → IsFaultBehind game lines m
unfolding said_by
fault_behind game lines m e =
    elim (bind_err (head_at 2 lines) _ (At m) e) [
      | inl fails ↦ head_fault game lines m fails
      | inr h ↦
          elim (bind_err (pairs_at (seal_len game) 0 h.0.1) _ (At m) h.2) [
            | inl fails ↦ pairs_fault game lines m h.0 h.1 fails
            | inr x ↦ absurd (no_fault {A = SealedExhibit} _ m x.2)
          ]
    ]

pub first_faults : (game : Game) (text : List ℕ) (m : ℕ) → sealed_fault game text ≡ Some (At m) → IsFirstFault game (ended_lines_of text) m
first_faults game text m e = first_of game (ended_lines_of text) m (fault_behind game (ended_lines_of text) m (fault_said (said_by (seal_len game) (ended_lines_of text)) e))
  where
    fault_said : (r : Result SealedExhibit TextFault) → fault_of r ≡ Some (At m) → r ≡ Err (At m)
    fault_said (Ok x) h = absurd cc
    fault_said (Err d) h = let same : d ≡ At m = cc in ap (λ (k : TextFault). Err k) same
