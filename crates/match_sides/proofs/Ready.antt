-- Ready: a loop that made a poll is ready for a further round.
use Rattle.std.specs.Prelude.{ℕ, List, refl}
use Rattle.peer_core.specs.Views.{PeerState}
use Rattle.rosters.specs.Rosters.{LinksOthers, Neighbours}
use Rattle.rosters.specs.Text.{IsReadFrom}
use Rattle.socket_station.specs.Items.{Item}
use Rattle.ready_loop.specs.declared.polling.Round.TheVariants as R
use Rattle.ready_loop.specs.States.{LoopState}
use Rattle.own_moves.specs.Choices.{Chooser}
use Rattle.ready_loop.specs.Beginning.{IsNew, new_loop}
use Rattle.ready_loop.specs.Polling.{Rounds}
use Rattle.ready_loop.specs.Settling.{IsReady}

pub on_is_ready : (by to : Chooser) (before after : List Item) (l m : LoopState) → Rounds by to R.On before after l m → IsReady after m
on_is_ready by to before after l m r = record { told = r.goes.told; idle = r.stands.idle }

-- the roster that a text says has a link to each other player
pub read_links : (me players : ℕ) (r : Neighbours) (text : List ℕ) → IsReadFrom me players r text → LinksOthers me players r
read_links me players r text i = i.roster.numbers

pub is_new : (p : PeerState) (r : Neighbours) → IsNew (new_loop p r)
is_new p r = refl
