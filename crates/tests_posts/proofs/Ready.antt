-- Ready: a loop that began, or that gave up, is ready for a further play.
use Rattle.std.specs.Prelude.{◌≡◌, ℕ, List, [], refl}
use Rattle.peer_core.specs.Views.{PeerState}
use Rattle.rosters.specs.Rosters.{LinksOthers, Neighbours}
use Rattle.rosters.specs.Text.{IsReadFrom}
use Rattle.datagram_post.specs.Items.{Item}
use Rattle.own_moves.specs.Choices.{Chooser}
use Rattle.loop_ends.specs.declared.ends.Begun.TheVariants as B
use Rattle.loop_ends.specs.declared.ends.Ended.TheVariants as E
use Rattle.datagram_loop.specs.States.{LoopState, IsReady}
use Rattle.datagram_loop.specs.Beginning.{IsNew, Begins, new_loop}
use Rattle.datagram_loop.specs.Playing.{Ends}

pub begun_is_ready : (name : List ℕ) (l m : LoopState) (items : List Item) → Begins name B.Ready l m items → IsReady m
begun_is_ready name l m items b = b.stands

pub gave_up_is_ready : (by to : Chooser) (polls : ℕ) (before after : List Item) (l m : LoopState) → Ends by to polls E.GaveUp before after l m → IsReady m
gave_up_is_ready by to polls before after l m e = e.stands.ready

pub done_is_ready : (by to : Chooser) (polls : ℕ) (before after : List Item) (l m : LoopState) → Ends by to polls E.Done before after l m → IsReady m
done_is_ready by to polls before after l m e = e.stands.0

-- the roster that a text says has a link to each other player
pub read_links : (me players : ℕ) (r : Neighbours) (text : List ℕ) → IsReadFrom me players r text → LinksOthers me players r
read_links me players r text i = i.roster.numbers

pub is_new : (p : PeerState) (r : Neighbours) → p.entries ≡ [] → IsNew (new_loop p r)
is_new p r first = record { new = refl; first = first }
