-- Laws on growth: what stays true as a log grows.
use Rattle.std.specs.Prelude.{◌≡◌, ℕ, ◌<◌, ◌≤◌, ◌↔◌, List, [], ◌∷◌, ◌++◌, None, IsTrue}
use Rattle.definitions.specs.declared.logs.Entry.{Entry}
use Rattle.definitions.specs.World.{Game}
use Rattle.definitions.specs.Places.{commit_place, reveal_place}
use Rattle.definitions.specs.Held.{held, next_place, resolved, resolved_count}
use Rattle.definitions.specs.Logs.{got_of}
use Rattle.definitions.specs.Findings.{is_clean}
use Rattle.definitions.specs.Meets.{meets}
use Rattle.definitions.specs.Entries.{AreWellFormed}
use Rattle.definitions.specs.Settled.{is_settled}
use Rattle.definitions.specs.Honest.{IsHonest, allowed, may_reveal, may_commit, made_count}

-- a meeting can end and can't begin
abbrev pub MeetingsOnlyEnd : Type 0
MeetingsOnlyEnd = (game : Game) (me q t : ℕ) (g h : List Entry) → t ≤ resolved_count game me g me →
    IsTrue (meets game me (g ++ h) q t) → IsTrue (meets game me g q t)

-- the beginning of an honest log is honest
abbrev pub PrefixesAreHonest : Type 0
PrefixesAreHonest = (game : Game) (me : ℕ) (g h : List Entry) → IsHonest game me (g ++ h) → IsHonest game me g

-- a move that may be revealed or a turn that may be committed next may be so in every longer log
abbrev pub PermitsStay : Type 0
PermitsStay = (game : Game) (me t : ℕ) (g h : List Entry) → 1 ≤ game.ahead → IsHonest game me g → t < game.turns →
    (made_count g ≡ reveal_place game t → IsTrue (may_reveal game me g t) → IsTrue (may_reveal game me (g ++ h) t)) ×
    (made_count g ≡ commit_place game t → IsTrue (may_commit game me g t) → IsTrue (may_commit game me (g ++ h) t))

-- the log of no entries is honest, and a log with one entry more is where it was honest and allowed that entry
abbrev pub HonestLogsGrow : Type 0
HonestLogsGrow = (game : Game) (me : ℕ) → IsHonest game me [] ×
    ((h : List Entry) (e : Entry) → IsHonest game me (h ++ e ∷ []) ↔ (IsHonest game me h × IsTrue (allowed game me h e)))

-- a log that got no frame of anyone is clean
abbrev pub CleanWithoutFrames : Type 0
CleanWithoutFrames = (game : Game) (h : List Entry) → ((q : ℕ) → got_of q h ≡ []) → IsTrue (is_clean game h)

-- of another player of whom no frame was got nothing is known, and its first place is next
abbrev pub NothingKnownWithoutFrames : Type 0
NothingKnownWithoutFrames = (game : Game) (me q t : ℕ) (h : List Entry) → (q ≡ me → ⊥) → got_of q h ≡ [] →
    (held game me h q t ≡ None) × (resolved game me h q t ≡ None) × (next_place game me h q ≡ 0)

-- the entries of an honest log are the session's
abbrev pub HonestLogsAreWellFormed : Type 0
HonestLogsAreWellFormed = (game : Game) (me : ℕ) (h : List Entry) → 1 ≤ game.ahead → IsHonest game me h → AreWellFormed game me h

-- a turn that is settled stays settled
abbrev pub SettledStays : Type 0
SettledStays = (game : Game) (me t : ℕ) (g h : List Entry) → 1 ≤ game.ahead → IsHonest game me g → IsTrue (is_settled game me g t) →
    IsTrue (is_settled game me (g ++ h) t)
