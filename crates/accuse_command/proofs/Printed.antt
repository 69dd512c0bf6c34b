-- Printed: the text of an accusation, written piece by piece.
use Rattle.std.proofs.Common.{◌≡◌, ℕ, suc, ◌+◌, ◌<◌, List, [], ◌∷◌, ◌++◌, length, drop, drop-cons, get_or, true, ap, arith, refl, ◌∙◌}
use Rattle.std.specs.Prelude.{Result, Err}
use Rattle.definitions.specs.declared.findings.Finding.{Finding}
use Rattle.definitions.specs.World.{Game}
use Rattle.station.specs.Sinks.{SinkState}
use Rattle.line_io.specs.Texts.{CutShort, Underway}
use Rattle.line_io.proofs.Writing.{underway_cut}
use Rattle.run_frame.specs.Frame.{Answer, Ran}
use Rattle.run_frame.specs.declared.statuses.Status.{Status}
use Rattle.run_frame.specs.declared.statuses.Status.TheVariants.{NoMemory, OutputFault}
use Rattle.file_commands.specs.AuditPrinting.{IsBegun}
use Rattle.file_commands.proofs.Printed.{begun_lacked, begun_on, no_finding}
use Rattle.accuse_command.specs.Accuse.{accused_text, all_accused_text}
use Rattle.accuse_command.specs.Printing.{Prints}

-- the finding at this place, and the others after it
found_more : (game : Game) (roots files : List (List ℕ)) (f : Finding) (fs : List Finding) →
    all_accused_text game roots files (f ∷ fs) ≡ accused_text game roots files f ++ all_accused_text game roots files fs
unfolding all_accused_text
found_more game roots files f fs = refl

pub found_next : (game : Game) (roots files : List (List ℕ)) (fs : List Finding) (i : ℕ) → i < length fs →
    all_accused_text game roots files (drop i fs) ≡ accused_text game roots files (get_or fs i no_finding) ++ all_accused_text game roots files (drop (i + 1) fs)
found_next game roots files fs i lt =
    let at : suc i ≡ i + 1 = omega arith in
    ap (all_accused_text game roots files) (drop-cons fs i no_finding lt)
    ∙ ap (λ n. all_accused_text game roots files (get_or fs i no_finding ∷ drop n fs)) at
    ∙ found_more game roots files (get_or fs i no_finding) (drop (i + 1) fs)

pub found_none : (game : Game) (roots files : List (List ℕ)) → all_accused_text game roots files [] ≡ []
unfolding all_accused_text
found_none game roots files = refl

-- memory was wanting, or the sink failed
pub prints_begun : (before now : SinkState) (text : List ℕ) (r : Result (Unit {0}) Status) (status : Status) → r ≡ Err status → status ≡ NoMemory → IsBegun before now text → Prints before now text r
prints_begun before now text r status is e b = rw (is, e) b

pub prints_cut : (before now : SinkState) (text : List ℕ) (r : Result (Unit {0}) Status) (status : Status) → r ≡ Err status → status ≡ OutputFault → CutShort before now text → Prints before now text r
prints_cut before now text r status is e c = rw (is, e) c

-- the same in a piece of a text
pub prints_piece : (a b c : SinkState) (text rest piece more : List ℕ) (status : Status) → Underway a b text rest → rest ≡ piece ++ more → Prints b c piece (Err status) → Prints a c text (Err status)
prints_piece a b c text rest piece more NoMemory u e p = begun_on a b c text rest piece more u e p
prints_piece a b c text rest piece more OutputFault u e p = underway_cut a b c text rest piece more u e p
prints_piece a b c text rest piece more status u e p = absurd p

-- the same in the first of two texts
pub prints_first : (before now : SinkState) (first more : List ℕ) (status : Status) → Prints before now first (Err status) → Prints before now (first ++ more) (Err status)
prints_first before now first more status p =
    prints_piece before before now (first ++ more) (first ++ more) first more status (record { longer = omega arith; whole = refl }) refl p

-- how a run ends whose text was not printed to its end
pub printed_so : (before now : SinkState) (due : Answer) (status : Status) → Prints before now due.body (Err status) → Ran before now due true ⊥ ⊥ status
printed_so before now due NoMemory p = begun_lacked before now due.body p
printed_so before now due OutputFault p = p
printed_so before now due status p = absurd p
