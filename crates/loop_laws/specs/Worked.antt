-- Worked histories: what a match of two says by its items alone.
use Rattle.std.specs.Prelude.{◌≡◌, List, [], ◌∷◌, ◌++◌, Some, flat_map, option_map}
use Rattle.wire_frames.specs.declared.frames.Frame.TheVariants.{Hello, Turn, Want}
use Rattle.wire_frames.specs.Spelling.{spelling}
use Rattle.definition_laws.specs.Rows.{commit_by, reveal_by}
use Rattle.socket_station.specs.declared.answers.Ready.TheVariants.{Socket as Seems}
use Rattle.socket_station.specs.Items.{Item, Polled, Took}
use Rattle.socket_station.specs.Moved.{given_in}
use Rattle.loop_rules.specs.Tables.{seat_of}
use Rattle.loop_rules.specs.After.{view_after}
use Rattle.loop_rules.specs.Worked.{asking, beginning, begun, chose, committed, exchange, far_frame, game, got_commit, greeting, hello_of, other_hello, revealed, revealing, shown, wanted}
use Rattle.loop_laws.specs.Sockets.{came_on, dialled_for}
use Rattle.loop_laws.specs.Handling.{Handles, from_new, turns_of}

-- the match
abbrev pub played : List Item
played = beginning ++ (greeting ++ (exchange ++ (revealing ++ asking)))

-- the other's HELLO came on the socket that was dialled for it, its commitment, and a far frame
unfoldable pub BringsItsFrames : Type 0
BringsItsFrames =
    (came_on 0 played ≡ Hello game.id 1 wanted 0 ∷ Turn (commit_by game 1 0 4 9) ∷ Turn far_frame ∷ []) × (dialled_for 0 played ≡ 1 ∷ [])

-- the own HELLO was given, both own frames in their order, and a WANT
unfoldable pub GivesItsFrames : Type 0
GivesItsFrames =
    given_in 0 played ≡ flat_map spelling (Hello game.id 0 shown 0 ∷ Turn (commit_by game 0 0 0 0) ∷ Turn (reveal_by 0 0 0 0) ∷ Want 1 ∷ [])

-- the commitment is new and is logged, a far frame is passed over
unfoldable pub HandlesItsFrames : Type 0
HandlesItsFrames =
    Handles game 0 1 (chose ∷ committed ∷ []) (turns_of 1 (Turn (commit_by game 1 0 4 9) ∷ [])) (got_commit ∷ revealed ∷ []) ×
    (from_new game 0 1 (chose ∷ committed ∷ []) (far_frame ∷ []) ≡ [])

-- the other's HELLO, which asks for the second own frame: the first one counts as given, and none
-- was
abbrev pub asking_further : List Item
asking_further = greeting ++ Polled (Seems 0 ∷ []) ∷ Took 0 (other_hello 1) ∷ []

unfoldable pub CountsWhatIsAskedFor : Type 0
CountsWhatIsAskedFor =
    (option_map (λ c. c.given) (seat_of (view_after begun asking_further).table 1) ≡ Some 1) ×
    (given_in 0 asking_further ≡ hello_of 0)
