-- Laws: the history of a whole run, from its beginning through all plays.
use Rattle.std.specs.Prelude.{◌≡◌, ◌≤◌, ℕ, Bool, false, List, [], ◌∷◌, ◌++◌}
use Rattle.datagram_post.specs.Items.{Item}
use Rattle.own_moves.specs.Choices.{Chooser, ChoosesBy}
use Rattle.peer_rules.specs.declared.arrivals.Arrival.{Arrival}
use Rattle.peer_rules.specs.declared.phases.Phase.TheVariants.{KeepFault}
use Rattle.post_rules.specs.Views.{Setting, Settling}
use Rattle.post_rules.specs.Histories.{BeginsLog}
use Rattle.post_rules.specs.Laws.{joined, view_at, IsRun}
use Rattle.post_rules.specs.Runs.{IsFairRun}
use Rattle.loop_ends.specs.declared.ends.Begun.{Begun}
use Rattle.loop_ends.specs.declared.ends.Ended.{Ended}
use Rattle.datagram_loop.specs.States.{LoopState, setting_of, kept_of, view_of}
use Rattle.datagram_loop.specs.Beginning.{IsNew, Begins}
use Rattle.datagram_loop.specs.Playing.{RefusesEnded, Ends}

-- The history is one of a run by the rules, in these stretches, and shows what the loop knows.
pub record IsTold (s : Setting) (front : List (List Item)) (items history : List Item) (l : LoopState) : Type 0 where
  pub setting : setting_of l ≡ s
  pub run : IsRun s front items
  pub all : history ≡ joined front ++ items
  pub waiting : List Arrival
  pub settling : Settling
  pub shows : view_at s front items ≡ view_of waiting settling l

-- what a beginning tells is a run
abbrev pub BeginningsAreTold : Type 0
BeginningsAreTold = (name : List ℕ) (begun : Begun) (l m : LoopState) (items : List Item) → Begins name begun l m items → IsTold (setting_of l) [] items items m

-- a play tells one more stretch of it
abbrev pub PlaysAreTold : Type 0
PlaysAreTold = (s : Setting) (front : List (List Item)) (items before after : List Item) (l m : LoopState) (by to : Chooser) (polls : ℕ) (ended : Ended) →
    IsTold s front items before l → Ends by to polls ended before after l m → (more : List Item) × IsTold s (front ++ items ∷ []) more after m

-- The whole run of a loop, from its first call through all plays so far. Its history goes by the
-- rules, is of a log of this name, and shows what the loop knows; and it is fair. Where no call of
-- the log failed, the log kept is the peer's. The choices in that are the chooser's, from the first
-- turn on.
pub record IsWholeRun (s : Setting) (name : List ℕ) (by to : Chooser) (refused : Bool) (front : List (List Item)) (items history : List Item) (l : LoopState) : Type 0 where
  pub told : IsTold s front items history l
  pub named : BeginsLog name history
  pub fair : IsFairRun s front items
  pub kept : (l.phase ≡ KeepFault → ⊥) → kept_of l ≡ l.peer.entries
  pub choices : ChoosesBy s.game s.me by to refused [] l.peer.entries

-- a beginning makes a whole run without choices
abbrev pub BeginningsAreRuns : Type 0
BeginningsAreRuns = (name : List ℕ) (begun : Begun) (by : Chooser) (l m : LoopState) (items : List Item) → 1 ≤ l.peer.game.ahead → IsNew l → Begins name begun l m items →
    IsWholeRun (setting_of l) name by by false [] items items m

-- a play goes on with it by one stretch, and with its choices
abbrev pub PlaysGoOn : Type 0
PlaysGoOn = (s : Setting) (name : List ℕ) (front : List (List Item)) (items before after : List Item) (l m : LoopState) (by mid to : Chooser) (polls : ℕ) (ended : Ended) →
    1 ≤ s.game.ahead → IsWholeRun s name by mid false front items before l → Ends mid to polls ended before after l m →
    (more : List Item) × (refused : Bool) × RefusesEnded ended refused × IsWholeRun s name by to refused (front ++ items ∷ []) more after m
