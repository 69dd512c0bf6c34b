-- Licence: when the loop may wait, point by point.
use Rattle.std.specs.Prelude.{ℕ, Bool, not, ◌&&◌, ◌||◌, ◌==◌, nat_lt, length, is_none, IsTrue, List}
use Rattle.std.specs.List.{list_any}
use Rattle.definitions.specs.World.{Game}
use Rattle.definitions.specs.declared.logs.Entry.{Entry}
use Rattle.definitions.specs.Lists.{is_empty}
use Rattle.definitions.specs.Needs.{needs, may_choose}
use Rattle.definitions.specs.Findings.{is_clean}
use Rattle.definitions.specs.Honest.{made_count}
use Rattle.definitions.specs.Advance.{next_made}
use Rattle.peer_rules.specs.Phases.{is_running}
use Rattle.post_rules.specs.declared.partners.Partner.{Partner}
use Rattle.post_rules.specs.Views.{View}
use Rattle.post_rules.specs.Handling.{is_handled}
use Rattle.post_rules.specs.Sending.{batch}

-- ---- playing

-- no move may be chosen and no own frame made, and the log has no finding
abbrev pub is_still : Game → (me : ℕ) → List Entry → Bool
is_still game me h = not (may_choose game me h) && is_none (next_made game me h) && is_clean game h

-- the same, and all frames that came are handled, and all of the log is kept and synced
abbrev pub all_is_played : View → Bool
all_is_played v =
    is_still v.setting.game v.setting.me v.kept && is_handled v.setting.game v.setting.me v.kept v.waiting && (v.synced == length v.kept)

-- ---- sending

-- all datagrams were received that were there, or enough, and all is played
abbrev pub may_send : View → Bool
may_send v = is_running v.phase && v.settling.is_received && all_is_played v

-- each datagram of the batch was handed to `send`
abbrev pub all_is_sent : View → Bool
all_is_sent v = v.settling.sent == length (batch v)

-- ---- waiting for someone

-- the player wants an own frame that is made
abbrev pub lacks : (made : ℕ) → Partner → Bool
lacks made p = nat_lt p.told made

-- a frame of another player is missed, or a player lacks an own frame
abbrev pub is_waited_for_by : Game → (me : ℕ) → List Entry → List Partner → Bool
is_waited_for_by game me h partners = not (is_empty (needs game me h)) || list_any (lacks (made_count h)) partners

-- the same of what a history shows
abbrev pub is_waited_for : View → Bool
is_waited_for v = is_waited_for_by v.setting.game v.setting.me v.kept v.partners

-- all that the rules ask for between two polls was done
abbrev pub is_through : View → Bool
is_through v = may_send v && all_is_sent v

-- a poll is licensed
abbrev pub is_licensed : View → Bool
is_licensed v = is_through v && is_waited_for v

-- a poll is licensed, as a proposition
abbrev pub IsLicensed : View → Type 0
IsLicensed v = IsTrue (is_licensed v)
