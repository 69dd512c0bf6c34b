-- Settling: what stands after the calls that play.
use Rattle.std.specs.Prelude.{not, ◌≡◌, ◌+◌, ◌<◌, Bool, true, false, List, Option, Result, Ok, Err, length}
use Rattle.std.specs.List.{list_all}
use Rattle.definitions.specs.Logs.{chosen}
use Rattle.definitions.specs.Needs.{may_choose}
use Rattle.definitions.specs.Findings.{is_clean}
use Rattle.pilots.specs.Plans.{Plan}
use Rattle.socket_station.specs.Items.{Item}
use Rattle.loop_rules.specs.Rules.{wants_read}
use Rattle.loop_rules.specs.Licence.{is_licensed}
use Rattle.loop_rules.specs.Told.{IsTold}
use Rattle.ready_loop.specs.declared.settling.Settled.{Settled}
use Rattle.ready_loop.specs.declared.stops.Stop.{Stop}
use Rattle.ready_loop.specs.declared.stops.Stop.TheVariants as T
use Rattle.ready_loop.specs.States.{LoopState, view_of}
use Rattle.ready_loop.specs.Steps.{synced_all}
use Rattle.ready_loop.specs.Going.{Goes, Grows, IsIdle, IsSteady, undialled}
use Rattle.own_moves.specs.Choices.{Chooser, ChoosesBy}
use Rattle.ready_loop.specs.Stops.{IsWhole, Refuses, settled_of, settled_by, is_idle, StandsSettled, StandsStopped, StandsUnchosen}
use Rattle.ready_loop.specs.Handling.{IsReadyToRead}

-- the own moves that are chosen meanwhile are the chooser's
abbrev pub ChoosesIn : (by to : Chooser) (refused : Bool) (l m : LoopState) → Type 0
ChoosesIn by to refused l m = ChoosesBy l.peer.game l.peer.me by to refused l.peer.entries m.peer.entries

-- The history goes on by the rules, without a poll; idle it is exactly where a poll is licensed.
pub record Settles (by to : Chooser) (settled : Settled) (before after : List Item) (l m : LoopState) : Type 0 where
  pub refused : Bool
  pub refuses : Refuses settled refused
  pub choices : ChoosesIn by to refused l m
  pub grows : Grows before after l m
  pub stands : StandsSettled by.plan settled m
  pub licensed : is_idle settled ≡ is_licensed (view_of m)

-- before a call that plays: what came is not handled yet, but all that was is kept
pub record IsReady (items : List Item) (l : LoopState) : Type 0 where
  pub told : IsTold items (view_of l)
  pub idle : IsIdle l

-- before own moves are chosen: nothing is left to be handled, made or kept
pub record IsPlaying (items : List Item) (l : LoopState) : Type 0 where
  pub told : IsTold items (view_of l)
  pub steady : IsSteady l

-- one move is chosen
pub record HasChosen (l m : LoopState) : Type 0 where
  pub steady : IsSteady m
  pub table : m.table ≡ l.table
  pub clean : is_clean m.peer.game m.peer.entries ≡ is_clean l.peer.game l.peer.entries
  pub one : length (chosen m.peer.me m.peer.entries) ≡ length (chosen l.peer.me l.peer.entries) + 1

abbrev pub StandsChosen : Option Plan → Result (Unit {0}) Stop → LoopState → LoopState → Type 0
StandsChosen plan (Ok u) l m = HasChosen l m
StandsChosen plan (Err stop) l m = StandsStopped plan stop m

-- one move is chosen, and it and the own frames that it lets be made are kept; or the loop stops
pub record Chooses (by to : Chooser) (r : Result (Unit {0}) Stop) (before after : List Item) (l m : LoopState) : Type 0 where
  pub refused : Bool
  pub refuses : Refuses (settled_by r) refused
  pub choices : ChoosesIn by to refused l m
  pub grows : Grows before after l m
  pub stands : StandsChosen by.plan r l m

-- all moves are chosen that may be
pub record HasPlayed (l m : LoopState) : Type 0 where
  pub steady : IsSteady m
  pub table : m.table ≡ l.table
  pub clean : is_clean m.peer.game m.peer.entries ≡ is_clean l.peer.game l.peer.entries
  pub all : may_choose m.peer.game m.peer.me m.peer.entries ≡ false

abbrev pub StandsAllChosen : Option Plan → Result (Unit {0}) Stop → LoopState → LoopState → Type 0
StandsAllChosen plan (Ok u) l m = HasPlayed l m
StandsAllChosen plan (Err stop) l m = StandsStopped plan stop m

-- or the loop stops
pub record Plays (by to : Chooser) (r : Result (Unit {0}) Stop) (before after : List Item) (l m : LoopState) : Type 0 where
  pub refused : Bool
  pub refuses : Refuses (settled_by r) refused
  pub choices : ChoosesIn by to refused l m
  pub grows : Grows before after l m
  pub stands : StandsAllChosen by.plan r l m

abbrev pub StandsSynced : Result (Unit {0}) Stop → LoopState → LoopState → Type 0
StandsSynced (Ok u) l m = m ≡ synced_all true l
StandsSynced (Err stop) l m = (stop ≡ T.KeepFault) × (m ≡ synced_all false l)

-- what is kept is synced, or that failed
pub record Syncs (r : Result (Unit {0}) Stop) (before after : List Item) (l m : LoopState) : Type 0 where
  pub goes : Goes before after l m
  pub same : StandsSynced r l m

abbrev pub StandsClean : Result (Unit {0}) Stop → LoopState → LoopState → Type 0
StandsClean (Ok u) l m = (m ≡ l) × (is_clean l.peer.game l.peer.entries ≡ true)
StandsClean (Err stop) l m = StandsUnchosen stop m

-- the log has no finding, and nothing is done; or the loop stops at the first, once all is synced
pub record Catches (r : Result (Unit {0}) Stop) (before after : List Item) (l m : LoopState) : Type 0 where
  pub goes : Goes before after l m
  pub table : m.table ≡ l.table
  pub stands : StandsClean r l m

-- a pass dialled one more player, or a poll is licensed after it, or the loop stops
abbrev pub StandsPassed : Option Plan → Result Bool Stop → LoopState → LoopState → List Item → Type 0
StandsPassed plan (Ok true) l m items = IsReadyToRead items m × (undialled m < undialled l)
StandsPassed plan (Ok false) l m items = IsWhole m × (is_licensed (view_of m) ≡ true)
StandsPassed plan (Err stop) l m items = StandsStopped plan stop m

abbrev pub RefusesPassed : Result Bool Stop → (refused : Bool) → Type 0
RefusesPassed (Ok dialled) refused = refused ≡ false
RefusesPassed (Err stop) refused = Refuses (settled_of stop) refused

pub record Passes (by to : Chooser) (r : Result Bool Stop) (before after : List Item) (l m : LoopState) : Type 0 where
  pub refused : Bool
  pub refuses : RefusesPassed r refused
  pub choices : ChoosesIn by to refused l m
  pub grows : Grows before after l m
  pub stands : StandsPassed by.plan r l m after

-- the sockets were read out, and no move may be chosen
pub record IsReadOut (l : LoopState) : Type 0 where
  pub read : list_all (λ x. not (wants_read l.table x)) l.table.lines ≡ true
  pub chosen : may_choose l.peer.game l.peer.me l.peer.entries ≡ false

-- the calls that serve chose no move, whatever the pilot's plan is
pub record ServesSo (r : Result Bool Stop) (before after : List Item) (l m : LoopState) : Type 0 where
  pub goes : Goes before after l m
  pub refuses : RefusesPassed r false
  pub stands : (plan : Option Plan) → StandsPassed plan r l m after
