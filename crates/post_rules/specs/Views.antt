-- Views: what a history shows at a moment.
use Rattle.std.specs.Prelude.{ℕ, ◌+◌, Bool, false, List, [], map}
use Rattle.definitions.specs.World.{Game}
use Rattle.definitions.specs.declared.logs.Entry.{Entry}
use Rattle.session_log.specs.Writing.{Writing, fresh}
use Rattle.rosters.specs.Rosters.{Neighbours}
use Rattle.rosters.specs.declared.roster.Link.{Link}
use Rattle.peer_rules.specs.declared.arrivals.Arrival.{Arrival}
use Rattle.peer_rules.specs.declared.phases.Phase.{Phase}
use Rattle.peer_rules.specs.declared.phases.Phase.TheVariants.{Fresh}
use Rattle.post_rules.specs.declared.partners.Partner.{Partner}
use Rattle.post_rules.specs.declared.drops.Drops.{Drops}

-- what a loop is given before its first call
pub record Setting : Type 0 where
  pub game : Game
  -- the player whose loop it is
  pub me : ℕ
  -- where it and the others are, and their passes
  pub roster : Neighbours

-- what was done since the last poll, or since the play began
pub record Settling : Type 0 where
  -- how many polls were made since the play began
  pub polls : ℕ
  -- how many datagrams were taken
  pub taken : ℕ
  -- no more are there, or enough were taken
  pub is_received : Bool
  -- the new entries are kept and synced
  pub is_stored : Bool
  -- how many datagrams of the batch were handed to `send`
  pub sent : ℕ

-- nothing was done after so many polls
abbrev pub settling_after : ℕ → Settling
settling_after polls = record { polls = polls; taken = 0; is_received = false; is_stored = false; sent = 0 }

-- nothing was done since a play began
abbrev pub new_settling : Settling
new_settling = settling_after 0

-- what a history shows at a moment
pub record View : Type 0 where
  pub setting : Setting
  pub phase : Phase
  -- the entries kept, and how many of them the last sync found
  pub kept : List Entry
  pub synced : ℕ
  -- what writes the next entry
  pub writer : Writing
  pub partners : List Partner
  -- the frames of good datagrams that were taken since the last poll, from the one on that stands
  -- behind the last whose entry was kept
  pub waiting : List Arrival
  pub settling : Settling
  -- how many of the datagrams that were taken since the first item were dropped, by cause
  pub drops : Drops

-- nothing is known of the other player
abbrev pub new_partner : Link → Partner
new_partner link = record { link = link; told = 0 }

-- nothing is known of the other players
abbrev pub new_partners : List Link → List Partner
new_partners links = map new_partner links

-- nothing was dropped
abbrev pub no_drops : Drops
no_drops = record { spelling = 0; session = 0; player = 0; pass = 0 }

-- before the first item
abbrev pub start : Setting → View
start s = record {
  setting = s;
  phase = Fresh;
  kept = [];
  synced = 0;
  writer = fresh s.game.id s.me;
  partners = new_partners s.roster.links;
  waiting = [];
  settling = new_settling;
  drops = no_drops;
}

-- what is shown where a play begins
abbrev pub anew : View → View
anew v = record v { waiting = []; settling = new_settling }

-- what is shown after a poll
abbrev pub polled : View → View
polled v = record v { waiting = []; settling = settling_after (v.settling.polls + 1) }
