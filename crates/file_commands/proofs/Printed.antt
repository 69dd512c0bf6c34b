-- Printed: a text that is written piece by piece, where memory may be wanting before a piece.
use Rattle.std.proofs.Common.{◌≡◌, ℕ, suc, ◌+◌, ◌<◌, List, [], ◌∷◌, ◌++◌, length, drop, take, drop-cons, get_or, true, ap, append_assoc, sym, arith, refl, subst, ◌∙◌}
use Rattle.std.proofs.lemmas.List.{take-append-drop, take-append-le}
use Rattle.std.proofs.Math.Seq.{drop-append_seam, take-append_seam}
use Rattle.definitions.specs.declared.findings.Kind.TheVariants.{TwoCommits}
use Rattle.std.specs.Prelude.{Result, Ok, Err}
use Rattle.definitions.specs.declared.logs.Entry.{Entry}
use Rattle.definitions.specs.declared.findings.Finding.{Finding}
use Rattle.definitions.specs.World.{Game}
use Rattle.station.specs.Sinks.{SinkState, after_bytes}
use Rattle.line_io.specs.Texts.{CutShort, Underway}
use Rattle.run_frame.specs.Frame.{Answer, Lacked, Ran}
use Rattle.line_io.proofs.Writing.{bytes_both, underway_cut, underway_on}
use Rattle.file_commands.specs.Audit.{all_found_text, found_text, status_by}
use Rattle.file_commands.specs.AuditPrinting.{IsBegun, Prints, status_of_print}
use Rattle.file_commands.specs.declared.audit_printing.PrintFault.{PrintFault}
use Rattle.file_commands.specs.declared.audit_printing.PrintFault.TheVariants.{NoMemory, Output}

-- nothing is written yet
pub begun_none : (s : SinkState) (text : List ℕ) → IsBegun s s text
begun_none s text = (text, record { longer = omega arith; whole = refl })

-- memory was wanting in a piece
pub begun_on : (a b c : SinkState) (text rest piece more : List ℕ) → Underway a b text rest → rest ≡ piece ++ more → IsBegun b c piece → IsBegun a c text
begun_on a b c text rest piece more u e w =
    let all : Underway b c (piece ++ more) (w.0 ++ more) = behind b c piece w.0 more w.1 in
    (w.0 ++ more, underway_on a b c text rest (w.0 ++ more) u (subst (λ (r : List ℕ). Underway b c r (w.0 ++ more)) (sym e) all))
  where
    behind : (b c : SinkState) (t rest more : List ℕ) → Underway b c t rest → Underway b c (t ++ more) (rest ++ more)
    behind b c t rest more u = record {
      longer = u.longer;
      whole = sym (bytes_both c rest more) ∙ ap (λ s. after_bytes s more) u.whole ∙ bytes_both b t more;
    }

-- what was written of it is a front of it
pub begun_lacked : (before now : SinkState) (text : List ℕ) → IsBegun before now text → Lacked true before now text
begun_lacked before now text (rest, u) =
    let n : ℕ = length before.held in
    let front : List ℕ = drop n now.held in
    let whole : now.held ++ rest ≡ before.held ++ text = ap (λ (s : SinkState). s.held) u.whole in
    let begins : take n now.held ≡ before.held = sym (take-append-le n now.held rest u.longer) ∙ ap (take n) whole ∙ take-append_seam before.held text in
    let held : now.held ≡ before.held ++ front = sym (take-append-drop n now.held) ∙ ap (λ x. x ++ front) begins in
    let goes_on : before.held ++ (front ++ rest) ≡ before.held ++ text = sym (append_assoc before.held front rest) ∙ ap (λ x. x ++ rest) (sym held) ∙ whole in
    let parts : text ≡ front ++ rest = sym (drop-append_seam before.held text) ∙ ap (drop n) (sym goes_on) ∙ drop-append_seam before.held (front ++ rest) in (
      front,
      (rest, parts),
      ap (λ h. let s : SinkState = record { held = h; faults = now.faults } in s) held ∙
          ap (λ f. let s : SinkState = record { held = before.held ++ front; faults = f } in s) (ap (λ (s : SinkState). s.faults) u.whole),
    )

-- what stands past the end of a list of findings
abbrev pub no_finding : Finding
no_finding = record { player = 0; turn = 0; kind = TwoCommits; first = record { log = 0; entry = 0 }; second = record { log = 0; entry = 0 } }

-- the finding at this place, and the others behind it
found_more : (game : Game) (logs : List (List Entry)) (f : Finding) (fs : List Finding) → all_found_text game logs (f ∷ fs) ≡ found_text game logs f ++ all_found_text game logs fs
unfolding all_found_text
found_more game logs f fs = refl

pub found_next : (game : Game) (logs : List (List Entry)) (fs : List Finding) (i : ℕ) → i < length fs →
    all_found_text game logs (drop i fs) ≡ found_text game logs (get_or fs i no_finding) ++ all_found_text game logs (drop (i + 1) fs)
found_next game logs fs i lt =
    let at : suc i ≡ i + 1 = omega arith in
    ap (all_found_text game logs) (drop-cons fs i no_finding lt) ∙ ap (λ n. all_found_text game logs (get_or fs i no_finding ∷ drop n fs)) at ∙ found_more game logs (get_or fs i no_finding) (drop (i + 1) fs)

pub found_none : (game : Game) (logs : List (List Entry)) → all_found_text game logs [] ≡ []
unfolding all_found_text
found_none game logs = refl

-- the command's end, by the findings
pub ended : (before now : SinkState) (due : Answer) (fs : List Finding) → now ≡ after_bytes before due.body → status_by fs ≡ due.status → Ran before now due true ⊥ ⊥ (status_by fs)
ended before now due [] e s = (e, s)
ended before now due (f ∷ fs) e s = (e, s)

-- memory was wanting, or the sink failed
pub prints_begun : (before now : SinkState) (text : List ℕ) (r : Result (Unit {0}) PrintFault) (fault : PrintFault) → r ≡ Err fault → fault ≡ NoMemory → IsBegun before now text → Prints before now text r
prints_begun before now text r fault is e b = rw (is, e) b

pub prints_cut : (before now : SinkState) (text : List ℕ) (r : Result (Unit {0}) PrintFault) (fault : PrintFault) → r ≡ Err fault → fault ≡ Output → CutShort before now text → Prints before now text r
prints_cut before now text r fault is e c = rw (is, e) c

-- the same in a piece of a text
pub prints_piece : (a b c : SinkState) (text rest piece more : List ℕ) (fault : PrintFault) → Underway a b text rest → rest ≡ piece ++ more → Prints b c piece (Err fault) → Prints a c text (Err fault)
prints_piece a b c text rest piece more NoMemory u e p = begun_on a b c text rest piece more u e p
prints_piece a b c text rest piece more Output u e p = underway_cut a b c text rest piece more u e p

-- the same in the first of two texts
pub prints_first : (before now : SinkState) (first more : List ℕ) (fault : PrintFault) → Prints before now first (Err fault) → Prints before now (first ++ more) (Err fault)
prints_first before now first more fault p =
    prints_piece before before now (first ++ more) (first ++ more) first more fault (record { longer = omega arith; whole = refl }) refl p

-- how a run ends whose text was not printed to its end
pub printed_so : (before now : SinkState) (due : Answer) (fault : PrintFault) → Prints before now due.body (Err fault) → Ran before now due true ⊥ ⊥ (status_of_print fault)
printed_so before now due NoMemory p = begun_lacked before now due.body p
printed_so before now due Output p = p
