-- Parts: what is written about bytes is what is written about the first frame that they make whole, and then about the rest.
use Rattle.std.proofs.Common.{Bool, List, [], ap, append-nil, append_assoc, false, length, refl, sym, true, ℕ, ◌++◌, ◌∙◌, ◌∷◌, ◌≡◌}
use Rattle.std.specs.Prelude.{get_or, if◌then◌else◌}
use Rattle.std.proofs.lemmas.List.{set-set}
use Rattle.definitions.specs.declared.logs.Entry.{Entry}
use Rattle.definitions.specs.World.{Game}
use Rattle.definitions.specs.declared.frames.TurnFrame.{TurnFrame}
use Rattle.definitions.specs.Findings.{is_clean}
use Rattle.definitions.specs.Answers.{got_answer, place_of}
use Rattle.definitions.specs.Steps.{after_got}
use Rattle.run_frame.specs.Frame.{Answer, after_text}
use Rattle.line_io.specs.Inputs.{Input}
use Rattle.wire_frames.specs.declared.frames.Frame.{Frame}
use Rattle.wire_frames.specs.declared.frames.Frame.TheVariants.{Turn}
use Rattle.wire_frames.specs.declared.frames.FedWhat.TheVariants as what
use Rattle.wire_frames.specs.Reading.{Reading, at_start}
use Rattle.wire_frames.specs.Streams.{Given, given_of, given_on}
use Rattle.drive_command.specs.Driven.{Driven, with_reader}
use Rattle.drive_command.specs.Coming.{bad_byte_text, bytes_state, bytes_text, coming_text, log_behind_frame, log_through, received_text, text_through}
use Rattle.drive_command.specs.Drive.{drive_from}
use Rattle.drive_command.specs.declared.outcomes.Reply.{Reply}
use Rattle.drive_command.specs.Outcomes.{bytes_from, driven_from, reply_text, rest_from}
use Rattle.report_lines.specs.Lines.{bad_text}
use Rattle.drive_command.proofs.LineOutcomes.{answer_from, comes_to_end}

-- a driver of this log and these readers
abbrev pub driver : Game → ℕ → List Entry → List Reading → ℕ → Driven
driver game me h readers n = record { game = game; me = me; state = record { log = h; readers = readers }; lines = n }

-- the answer to frames that bytes gave, and then to the input
by_given : Game → ℕ → List Entry → List Reading → ℕ → ℕ → Given → Input → Answer
by_given game me h readers n q g input =
    after_text (text_through game me h q g.frames g.reader)
    (answer_from game me (record { log = log_through game me h q g.frames; readers = with_reader readers q g.reader }) n input)

is_by : (game : Game) (me : ℕ) (h : List Entry) (readers : List Reading) (n q : ℕ) (bytes : List ℕ) (input : Input) →
    bytes_from (driver game me h readers n) q bytes input ≡ by_given game me h readers n q (given_of (get_or readers q at_start) bytes) input
unfolding bytes_text bytes_state by_given
is_by game me h readers n q bytes lines = refl

given_as : (game : Game) (me : ℕ) (h : List Entry) (readers : List Reading) (n q : ℕ) (bytes : List ℕ) (g : Given) (input : Input) → given_of (get_or readers q at_start) bytes ≡ g →
    bytes_from (driver game me h readers n) q bytes input ≡ by_given game me h readers n q g input
given_as game me h readers n q bytes g input e = is_by game me h readers n q bytes input ∙ ap (λ (g : Given). by_given game me h readers n q g input) e

-- the answer where no frame comes, by whether the reader stands at a bad byte
none_given : (game : Game) (me : ℕ) (h : List Entry) (readers : List Reading) (n q : ℕ) (r : Reading) (input : Input) →
    by_given game me h readers n q (record { frames = []; reader = r }) input ≡ after_text (bad_byte_text q r) (driven_from (driver game me h (with_reader readers q r) n) input)
unfolding by_given text_through log_through
none_given game me h readers n q r lines = refl

no_bad_text : (q : ℕ) (r : Reading) → r.bad ≡ false → bad_byte_text q r ≡ []
no_bad_text q r e = rw e refl

the_bad_text : (q place : ℕ) (r : Reading) → r.bad ≡ true → r.place ≡ place → bad_byte_text q r ≡ bad_text q place
the_bad_text q place r e at = rw e (ap (bad_text q) at)

-- no further frame is whole
pub found_more : (game : Game) (me : ℕ) (h : List Entry) (readers readers' : List Reading) (n q : ℕ) (bytes rest : List ℕ) (input : Input) → let r : Reading = get_or readers' q at_start in
    readers' ≡ with_reader readers q r → given_of (get_or readers q at_start) bytes ≡ given_on what.More r (given_of r rest) → r.bad ≡ false →
    bytes_from (driver game me h readers n) q bytes input ≡ after_text [] (driven_from (driver game me h readers' n) input)
found_more game me h readers readers' n q bytes rest input w e good =
    let r : Reading = get_or readers' q at_start in
    given_as game me h readers n q bytes (record { frames = []; reader = r }) input e ∙
    none_given game me h readers n q r input ∙
    ap (λ (t : List ℕ). after_text t (driven_from (driver game me h (with_reader readers q r) n) input)) (no_bad_text q r good) ∙
    ap (λ (rs : List Reading). after_text [] (driven_from (driver game me h rs n) input)) (sym w)

-- a byte is bad
pub found_bad : (game : Game) (me : ℕ) (h : List Entry) (readers readers' : List Reading) (n q place : ℕ) (bytes rest : List ℕ) (input : Input) → let r : Reading = get_or readers' q at_start in
    readers' ≡ with_reader readers q r → given_of (get_or readers q at_start) bytes ≡ given_on (what.Bad place) r (given_of r rest) → r.bad ≡ true → r.place ≡ place →
    bytes_from (driver game me h readers n) q bytes input ≡ after_text (bad_text q place) (driven_from (driver game me h readers' n) input)
found_bad game me h readers readers' n q place bytes rest input w e bad at =
    let r : Reading = get_or readers' q at_start in
    given_as game me h readers n q bytes (record { frames = []; reader = r }) input e ∙
    none_given game me h readers n q r input ∙
    ap (λ (t : List ℕ). after_text t (driven_from (driver game me h (with_reader readers q r) n) input)) (the_bad_text q place r bad at) ∙
    ap (λ (rs : List Reading). after_text (bad_text q place) (driven_from (driver game me h rs n) input)) (sym w)

-- a frame is whole, and what comes behind it is dropped where it makes a finding
frame_given : (game : Game) (me : ℕ) (h : List Entry) (readers readers' : List Reading) (n q : ℕ) (f : Frame) (rest : List ℕ) (input : Input) → let r : Reading = get_or readers' q at_start in
    readers' ≡ with_reader readers q r →
    by_given game me h readers n q (record { frames = f ∷ (given_of r rest).frames; reader = (given_of r rest).reader }) input ≡
    after_text (coming_text game me h q f)
    (if is_clean game (log_behind_frame game me h q f) then bytes_from (driver game me (log_behind_frame game me h q f) readers' n) q rest input else driven_from (driver game me (log_behind_frame game me h q f) readers' n) input)
unfolding by_given text_through log_through
frame_given game me h readers readers' n q f rest input w = go (is_clean game (log_behind_frame game me h q f)) refl
  where
    r : Reading
    r = get_or readers' q at_start

    g : Given
    g = given_of r rest

    next : List Entry
    next = log_behind_frame game me h q f

    twice : with_reader readers' q g.reader ≡ with_reader readers q g.reader
    twice = ap (λ (rs : List Reading). with_reader rs q g.reader) w ∙ set-set readers q r g.reader

    go : (b : Bool) → is_clean game next ≡ b →
        after_text (coming_text game me h q f ++ (if b then text_through game me next q g.frames g.reader else []))
        (answer_from game me (record { log = if b then log_through game me next q g.frames else next; readers = with_reader readers q g.reader }) n input) ≡
        after_text (coming_text game me h q f) (if b then bytes_from (driver game me next readers' n) q rest input else driven_from (driver game me next readers' n) input)
    go true c =
        let all : List ℕ = text_through game me next q g.frames g.reader in
        let behind : List Reading → Answer = λ rs. answer_from game me (record { log = log_through game me next q g.frames; readers = rs }) n input in
        ap (λ (t : List ℕ). record { body = t; status = (behind (with_reader readers q g.reader)).status }) (append_assoc (coming_text game me h q f) all (behind (with_reader readers q g.reader)).body) ∙
        ap (λ (rs : List Reading). after_text (coming_text game me h q f) (after_text all (behind rs))) (sym twice) ∙
        ap (λ (a : Answer). after_text (coming_text game me h q f) a) (sym (is_by game me next readers' n q rest input))
    go false c =
        ap (λ (t : List ℕ). after_text t (answer_from game me (record { log = next; readers = with_reader readers q g.reader }) n input)) (append-nil (coming_text game me h q f)) ∙
        ap (λ (a : Answer). after_text (coming_text game me h q f) a)
        (comes_to_end game me next (drive_from game me (record { log = next; readers = with_reader readers q g.reader }) n input) c ∙
        sym (comes_to_end game me next (drive_from game me (record { log = next; readers = readers' }) n input) c))

pub found_frame : (game : Game) (me : ℕ) (h : List Entry) (readers readers' : List Reading) (n q : ℕ) (f : Frame) (d : Driven) (last : Bool) (text bytes rest : List ℕ) (input : Input) → let r : Reading = get_or readers' q at_start in
    readers' ≡ with_reader readers q r → given_of (get_or readers q at_start) bytes ≡ given_on (what.Whole f) r (given_of r rest) →
    d ≡ driver game me (log_behind_frame game me h q f) readers' n → last ≡ false → text ≡ coming_text game me h q f →
    bytes_from (driver game me h readers n) q bytes input ≡ after_text text (rest_from last d q rest input)
found_frame game me h readers readers' n q f d last text bytes rest input w e is further told =
    let r : Reading = get_or readers' q at_start in
    let g : Given = given_of r rest in
    let new : Driven = driver game me (log_behind_frame game me h q f) readers' n in
    given_as game me h readers n q bytes (record { frames = f ∷ g.frames; reader = g.reader }) input e ∙
    frame_given game me h readers readers' n q f rest input w ∙
    ap (λ (t : List ℕ). after_text t (rest_from false new q rest input)) (sym told) ∙
    ap (λ (d : Driven). after_text text (rest_from false d q rest input)) (sym is) ∙
    ap (λ (b : Bool). after_text text (rest_from b d q rest input)) (sym further)

-- a frame of a turn, by the peer's reply to it
pub turn_told : (game : Game) (me : ℕ) (h log : List Entry) (q : ℕ) (f : Frame) (t : TurnFrame) (reply : Reply) → f ≡ Turn t →
    reply.place ≡ place_of game t → reply.answer ≡ got_answer game me h q t → reply.entries ≡ length h → log ≡ after_got game me h q t → reply_text q reply log ≡ coming_text game me h q f
unfolding received_text
turn_told game me h log q f t reply is place answer entries after = rw (is, place, answer, entries, after) refl
