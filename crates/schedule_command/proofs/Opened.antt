-- Opened: what a line comes to that stands before the one which names the hostile players, or is that one.
use Rattle.std.proofs.Common.{◌≡◌, ◌<◌, ◌+◌, ℕ, true, false, List, [], ◌∷◌, ◌++◌, length, refl, ap, sym, subst, ◌∙◌}
use Rattle.std.specs.Prelude.{Result, Ok, Err, Some}
use Rattle.definitions.specs.declared.limits.TheConstants.{LONGEST_LINE}
use Rattle.definitions.specs.World.{Game}
use Rattle.station.specs.Since.{since}
use Rattle.station.specs.Sinks.{SinkState}
use Rattle.station.specs.Sources.{SourceState}
use Rattle.line_io.specs.Lines.{IsOpen, StartsLonger, lines_of}
use Rattle.line_io.specs.Inputs.{AtEnd, End, Fault, Input, Line, MayFollow, input_of, lines_then}
use Rattle.line_io.specs.Readings.{Drew}
use Rattle.line_io.proofs.Drawing.{drew_on}
use Rattle.line_io.proofs.Inputs.{end_read, fault_read, last_read}
use Rattle.run_frame.specs.Frame.{Answer, bare_answer}
use Rattle.run_frame.specs.Turns.{PlaysOn}
use Rattle.run_frame.specs.declared.statuses.Status.{Status}
use Rattle.run_frame.specs.declared.statuses.Status.TheVariants.{BadLine, InputFault, NoMemory}
use Rattle.run_frame.specs.declared.statuses.TextName.TheVariants.{Script}
use Rattle.run_frame.proofs.Frames.{onward_same, plays_ends, plays_on}
use Rattle.schedule_command.specs.declared.opening.Naming.{Naming}
use Rattle.schedule_command.specs.declared.opening.Naming.TheVariants.{Names, Passed, Unknown}
use Rattle.schedule_command.specs.declared.opening.Opening.{Opening}
use Rattle.schedule_command.specs.declared.opening.Opening.TheVariants.{Last, Named}
use Rattle.schedule_command.specs.Played.{Opens, OpensOrPasses, open_by, open_last}
use Rattle.schedule_command.specs.Schedule.{first_table, named_answer, naming_behind, opened_from, schedule_from}
use Rattle.schedule_command.proofs.Readings.{Came, bare_ends, come_plays, comes, is_overlong, line_bad, line_on}

-- a line is too long
named_overlong : (game : Game) (n : ℕ) (line : List ℕ) → LONGEST_LINE < length line → naming_behind game n line ≡ Unknown
unfolding naming_behind
named_overlong game n line l = rw (is_overlong n line l) refl

pub open_too_long : (game : Game) (n : ℕ) (lines : List (List ℕ)) (last : Input) → StartsLonger LONGEST_LINE lines → opened_from game n (lines_then lines last) ≡ bare_answer (BadLine Script (n + 1))
open_too_long game n [] last l = absurd l
open_too_long game n (line ∷ lines) last l = rw (named_overlong game n line l) refl

-- the answer from a line on that says this
named_line : (game : Game) (n : ℕ) (line : List ℕ) (input : Input) (naming : Naming) → naming ≡ naming_behind game n line →
    opened_from game n (Line line input) ≡ named_answer game naming (n + 1) (opened_from game (n + 1) input) input
named_line game n line input naming e = ap (λ (m : Naming). named_answer game m (n + 1) (opened_from game (n + 1) input) input) (sym e)

module _ (game : Game) (n : ℕ) (i j : SourceState) (held : List ℕ) where
  -- the source failed
  pub fault_opens : Drew i j true → (line : List ℕ) → IsOpen line → held ++ since i.seen j.seen ≡ line → (held' : List ℕ) → Opens game i j (opened_from game n) held held' (Err InputFault)
  fault_opens drew line uncut is held' sink = (
    record {
      drew = drew;
      ends = λ behind m. bare_ends sink sink _ InputFault refl (ap (opened_from game n) (fault_read _ line uncut is));
      over = tt;
    },
    (λ e. cc),
    refl,
  )

  -- a line is too long
  pub long_opens : Drew i j false → ((rest : List ℕ) → StartsLonger LONGEST_LINE (lines_of ((held ++ since i.seen j.seen) ++ rest))) → (held' : List ℕ) →
      Opens game i j (opened_from game n) held held' (Err (BadLine Script (n + 1)))
  long_opens drew longer held' sink = (
    record {
      drew = drew;
      ends = λ behind m. bare_ends sink sink _ (BadLine Script (n + 1)) refl (open_too_long game n _ End (longer behind));
      over = tt;
    },
    (λ e. cc),
    refl,
  )

  -- the source was read to its end, and this is due by it
  module _ (drew : Drew i j false) (over : j.ended ≡ true) (held' : List ℕ) where
    bad_comes : (m : ℕ) → Came i j (opened_from game n) held (bare_answer (BadLine Script m)) → Opens game i j (opened_from game n) held held' (Err (BadLine Script m))
    bad_comes m c sink = (come_plays i j (opened_from game n) held (bare_answer (BadLine Script m)) c sink sink (BadLine Script m) refl (bare_ends sink sink _ (BadLine Script m) refl refl), (λ e. cc), refl)

    -- no line is left
    pub end_opens : held ++ since i.seen j.seen ≡ [] → Opens game i j (opened_from game n) held held' (Err (BadLine Script (n + 1)))
    end_opens is = bad_comes (n + 1) (record { drew = drew; over = over; rest_is = λ behind m. ap (opened_from game n) (end_read _ behind is (m over)) })

    -- the last line, without its end
    pub last_opens : (line : List ℕ) → IsOpen line → 0 < length line → held ++ since i.seen j.seen ≡ line → (naming : Naming) → naming ≡ naming_behind game n line →
        Opens game i j (opened_from game n) held held' (open_last naming n)
    last_opens line uncut some is naming e = by_naming naming (λ behind m. ap (opened_from game n) (last_read _ line behind uncut some is (m over)) ∙ named_line game n line End naming e)
      where
        by_naming : (k : Naming) → ((behind : List ℕ) → MayFollow j.ended behind →
            opened_from game n (input_of AtEnd ((held ++ since i.seen j.seen) ++ behind)) ≡ named_answer game k (n + 1) (opened_from game (n + 1) End) End) →
            Opens game i j (opened_from game n) held held' (open_last k n)
        by_naming Passed r = bad_comes (n + 1 + 1) (record { drew = drew; over = over; rest_is = r })
        by_naming (Names hostile) r = comes i j (opened_from game n) held (schedule_from (first_table game hostile) (n + 1) End) (record { drew = drew; over = over; rest_is = r })
        by_naming Unknown r = bad_comes (n + 1) (record { drew = drew; over = over; rest_is = r })

  -- a line with its end
  pub line_opens : (held' line : List ℕ) → Drew i j false → IsOpen line → held ++ since i.seen j.seen ≡ line ++ 10 ∷ held' → (naming : Naming) → naming ≡ naming_behind game n line →
      OpensOrPasses game i j (opened_from game n) (n + 1) held held' (open_by naming n)
  line_opens held' line drew uncut is naming e = by_naming naming (λ input. named_line game n line input naming e)
    where
      by_naming : (k : Naming) → ((input : Input) → opened_from game n (Line line input) ≡ named_answer game k (n + 1) (opened_from game (n + 1) input) input) →
          OpensOrPasses game i j (opened_from game n) (n + 1) held held' (open_by k n)
      by_naming Passed r = λ sink. line_on i j held held' line drew uncut is sink sink (opened_from game n) (opened_from game (n + 1)) (λ input. onward_same sink _ _ (r input))
      by_naming (Names hostile) r = λ sink.
          line_on i j held held' line drew uncut is sink sink (opened_from game n) (schedule_from (first_table game hostile) (n + 1)) (λ input. onward_same sink _ _ (r input))
      by_naming Unknown r = λ sink. (line_bad i j held held' line drew uncut is sink sink (opened_from game n) (n + 1) refl r, (λ e. cc), refl)

-- the lines behind those that were passed over
pub opens_behind : (game : Game) (i j k : SourceState) (due mid : Input → Answer) (x y z : List ℕ) (opening : Result Opening Status) → ((sink : SinkState) → PlaysOn i j sink sink due mid x y) →
    Opens game j k mid y z opening → Opens game i k due x z opening
opens_behind game i j k due mid x y z (Ok (Named hostile n)) u v = λ sink. plays_on i j k sink sink sink due mid (schedule_from (first_table game hostile) n) x y z (u sink) (v sink)
opens_behind game i j k due mid x y z (Ok (Last hostile n)) u v =
    let sink : SinkState = record { held = []; faults = 0 } in
    record { drew = drew_on i j k false (u sink).drew v.drew; over = v.over; plays = λ a b s f e. plays_ends i j k a a b due mid x y s (u a) (v.plays a b s f e) }
opens_behind game i j k due mid x y z (Err status) u v = λ sink. (plays_ends i j k sink sink sink due mid x y status (u sink) (v sink).0, (v sink).1, (v sink).2)

-- the last of the lines was read, without its end or with it
pub last_opened : (game : Game) (i j : SourceState) (due : Input → Answer) (n : ℕ) (x y : List ℕ) (r : Result Opening Status) (opening : Opening) → r ≡ Ok opening → Opens game i j due x y r →
    OpensOrPasses game i j due n x y (Ok (Some opening))
last_opened game i j due n x y r opening e h = subst (Opens game i j due x y) e h

pub last_failed : (game : Game) (i j : SourceState) (due : Input → Answer) (n : ℕ) (x y : List ℕ) (r : Result Opening Status) (status : Status) → r ≡ Err status → Opens game i j due x y r →
    OpensOrPasses game i j due n x y (Err status)
last_failed game i j due n x y r status e h = subst (Opens game i j due x y) e h
