-- Entries: which entry a text spells.
use Rattle.std.specs.Prelude.{ℕ, Bool, ◌+◌, ◌==◌, List, [], ◌∷◌, drop, Option, Some, None, length, slice_index, if◌then◌else◌, option_map}
use Rattle.std.specs.Int.{w16, from_be_bytes}
use Rattle.definitions.specs.declared.frames.TurnFrame.{TurnFrame}
use Rattle.definitions.specs.declared.frames.TurnFrame.TheVariants.{Commit, Reveal}
use Rattle.definitions.specs.declared.logs.Entry.{Entry}
use Rattle.definitions.specs.declared.logs.Entry.TheVariants.{Chose, Made, Got}
use Rattle.commitment.specs.Spelling.{turn_frame_of}

-- the choice that a reveal shows
abbrev pub choice_of : Option TurnFrame → Option Entry
choice_of None = None
choice_of (Some (Commit p t d)) = None
choice_of (Some (Reveal p t m n)) = Some (Chose t m n)

-- the reveal that would show what the body of a choice says
abbrev pub as_reveal : List ℕ → List ℕ
as_reveal body = 3 ∷ 0 ∷ (length body + 1) ∷ 0 ∷ body

-- the choice that a body says: a reveal says the same behind its player
unfoldable pub chose_of : List ℕ → Option Entry
chose_of body = choice_of (turn_frame_of (as_reveal body))

abbrev pub made_of : List ℕ → Option Entry
made_of body = option_map (λ (f : TurnFrame). Made f) (turn_frame_of body)

abbrev pub got_of : List ℕ → Option Entry
got_of [] = None
got_of (q ∷ frame) = option_map (λ (f : TurnFrame). Got q f) (turn_frame_of frame)

-- the entry of this kind that the body says
abbrev pub entry_by : ℕ → List ℕ → Option Entry
entry_by kind body = if kind == 1 then chose_of body else if kind == 2 then made_of body else if kind == 3 then got_of body else None

-- how many bytes the body has, by its first two bytes
abbrev pub told_len : List ℕ → ℕ
told_len bytes = from_be_bytes w16 (slice_index bytes 0 ∷ slice_index bytes 1 ∷ [])

-- the entry that a text spells: the length of its body, its kind, and the body
unfoldable pub entry_of : List ℕ → Option Entry
entry_of text = if length text == told_len text + 3 then entry_by (slice_index text 2) (drop 3 text) else None

-- what was read to the room that holds this entry now, by whether something was
abbrev pub read_as : Bool → Entry → Option Entry
read_as was e = if was then Some e else None
