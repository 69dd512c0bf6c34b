-- Worked: a run of a command by which a player plays, from what it opened to the end of its loop.
use Rattle.std.proofs.Common.{◌≡◌, ◌⊎◌, inl, ℕ, Bool, false, true, List, refl}
use Rattle.std.specs.Prelude.{Result, Ok, Err}
use Rattle.rand_core.specs.Stream.{Stream}
use Rattle.definitions.specs.World.{players_of}
use Rattle.rosters.specs.Rosters.{LinksOthers}
use Rattle.station.specs.Outside.{Rose}
use Rattle.station.specs.Shelves.{ShelfState}
use Rattle.station.specs.Since.{grows_none}
use Rattle.station.specs.Sinks.{SinkState}
use Rattle.station.specs.Sources.{SourceState}
use Rattle.socket_station.specs.Items.{Item}
use Rattle.datagram_post.specs.Items.{Item as Mailing}
use Rattle.line_io.specs.Files.{AreContents, Contents}
use Rattle.run_frame.specs.Frame.{Ran, is_input_fault}
use Rattle.run_frame.specs.Law.{Law}
use Rattle.run_frame.specs.Opening.{Reads}
use Rattle.run_frame.specs.Outside.{Answered, CountsFaults, IsApart, Outside, outside}
use Rattle.run_frame.specs.Runs.{Works}
use Rattle.run_frame.specs.declared.statuses.Status.{Status}
use Rattle.run_frame.proofs.Counts.{where_no_memory}
use Rattle.run_frame.proofs.Working.{Holds, readings_fit, some_contents, works}
use Rattle.seat_files.specs.declared.seats.Seat.{Seat}
use Rattle.seat_files.specs.SeatLaw.{seat_law}
use Rattle.seat_files.specs.Seats.{IsSeated, MayReadRoster, OpensSeat, Seating, seat_names, start_for}
use Rattle.seat_files.specs.Unplayed.{unplayed_answer}
use Rattle.seat_files.specs.Words.{Peering}
use Rattle.seat_files.proofs.Refused.{refused_counts, refused_ran}

-- some contents give what was answered
some_are : (a b : ShelfState) (names : List (List ℕ)) (failed : Bool) (R : Contents → ℕ → Type 0) (Q : Contents → Type 0) (r : Reads a b names failed R Q) → AreContents (some_contents r.calls) r.calls
some_are a b names failed R Q r = readings_fit a.files names r.calls r.reads.readings

-- a seat is what some files give
pub seated : (p : Peering) (h h' : ShelfState) (s : Seat) → OpensSeat p h h' (Ok s) → (contents : Contents) × IsSeated p (start_for p contents) s
seated p h h' s o = (some_contents o.calls, o.due (some_contents o.calls) (some_are h h' (seat_names p) false (MayReadRoster p) _ o))

-- the roster of a seat has a link to each other player
pub seat_links : (p : Peering) (h h' : ShelfState) (s : Seat) → OpensSeat p h h' (Ok s) → LinksOthers s.peer.me (players_of s.peer.game) s.roster
seat_links p h h' s o = (seated p h h' s o).1.links

module _ (p : Peering) (plays : Result Seating Status → (before after : Outside) → Status → Type 0) (good : Result Seating Status → Answered → Type 0) (meant : Type 0) (holds : Holds (seat_law p plays good meant)) (input : SourceState) (h h' : ShelfState) where
  abbrev law : Law
  law = seat_law p plays good meant

  -- there is nothing to play by, and no call is made
  pub no_seat : (a : SinkState) (items : List Item) (mails : List Mailing) (chance : Stream) (s : Status) → OpensSeat p h h' (Err s) → Works law (outside input a h items mails chance) (outside input a h' items mails chance) s
  no_seat a items mails chance s o =
      let some : Contents = some_contents o.calls in
      works law holds (outside input a h items mails chance) (outside input a h' items mails chance) s (record {
        calls = o.calls;
        read = h';
        files = record { reads = o.reads; due = o.ready };
        asked = refl;
        input = record { same = refl; grows = grows_none input.seen };
        text = λ contents behind m. inl (record { station = refl; post = refl; chance = refl }, refused_ran a h h' (start_for p contents) _ (input ≡ input) refl s o.counted (o.due contents m.given));
        memory = where_no_memory s (law.memory ≡ true) refl;
        faults = refused_counts (outside input a h items mails chance) (outside input a h' items mails chance) (start_for p some) s refl refl o.counted (o.due some (some_are h h' (seat_names p) (is_input_fault s) (MayReadRoster p) _ o));
        untouched = record { over = λ contents behind m over. refl; no_memory = where_no_memory s (law.first ≡ true → input ≡ input) (λ e. refl) };
        over = tt;
      })

  -- there is a seat, and the run plays by it, or makes no call for want of memory
  pub a_seat_works : (s : Seat) → OpensSeat p h h' (Ok s) → (a b : SinkState) (items items' : List Item) (mails mails' : List Mailing) (chance later : Stream) (ended : Status) →
      CountsFaults (outside input a h items mails chance) (outside input b h' items' mails' later) ended →
      ((contents : Contents) (source : Type 0) → IsSeated p (start_for p contents) s →
      (IsApart (outside input a h items mails chance) (outside input b h' items' mails' later) × Ran a b (unplayed_answer (start_for p contents)) false source (Rose h.faults h'.faults × (input ≡ input)) ended)
      ⊎ plays (start_for p contents) (outside input a h items mails chance) (outside input b h' items' mails' later) ended) →
      Works law (outside input a h items mails chance) (outside input b h' items' mails' later) ended
  a_seat_works s o a b items items' mails mails' chance later ended counts worked = works law holds (outside input a h items mails chance) (outside input b h' items' mails' later) ended (record {
    calls = o.calls;
    read = h';
    files = record { reads = o.reads; due = o.ready };
    asked = refl;
    input = record { same = refl; grows = grows_none input.seen };
    text = λ contents behind m. worked contents _ (o.due contents m.given);
    memory = where_no_memory ended (law.memory ≡ true) refl;
    faults = counts;
    untouched = record { over = λ contents behind m over. refl; no_memory = where_no_memory ended (law.first ≡ true → input ≡ input) (λ e. refl) };
    over = tt;
  })
