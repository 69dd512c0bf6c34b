-- Going: a history goes on item by item.
use Rattle.std.proofs.Common.{◌≡◌, ℕ, ◌+◌, true, refl, sym, ap, subst, ◌∙◌, List, [], ◌∷◌, ◌++◌, append_assoc, append-nil, arith}
use Rattle.socket_station.specs.declared.answers.Standing.TheVariants.{Open}
use Rattle.socket_station.specs.Items.{Item}
use Rattle.socket_station.specs.Standings.{OpensNew, standing_in}
use Rattle.loop_rules.specs.Told.{LineStands}
use Rattle.socket_list.proofs.Lists.{each_at}
use Rattle.socket_list.specs.Sockets.{IsAt}
use Rattle.watch_rules.specs.declared.phases.WatchPhase.TheVariants.{Running}
use Rattle.watch_rules.specs.Views.{Setting, View, start}
use Rattle.watch_rules.specs.After as A
use Rattle.watch_rules.specs.Rules.{is_allowed}
use Rattle.watch_rules.specs.Histories.{AreTold}
use Rattle.watch_rules.specs.Told.{IsTold}
use Rattle.watch_rules.proofs.Told.{setting_after, told_goes_on}
use Rattle.live_logger.specs.States.{WatchState, IsWatching, with_view}
use Rattle.live_logger.specs.Going.{Goes, poll_count, polls_of}

pub polls_join : (a b : List Item) → polls_of (a ++ b) ≡ polls_of a + polls_of b
polls_join [] b = omega arith
polls_join (item ∷ a) b = let r = polls_join a b in omega (arith, r)

pub goes_still : (items : List Item) (w : WatchState) → IsWatching items w → Goes items items w w
goes_still items w k = record { more = []; grown = sym (append-nil items); polls = refl; setting = refl; watching = k }

pub goes_then : (a b c : List Item) (w m n : WatchState) → Goes a b w m → Goes b c m n → Goes a c w n
goes_then a b c w m n g h = record {
  more = g.more ++ h.more;
  grown = h.grown ∙ ap (λ (items : List Item). items ++ h.more) g.grown ∙ append_assoc a g.more h.more;
  polls = (let j = polls_join g.more h.more in let x = g.polls in let y = h.polls in omega (arith, j, x, y));
  setting = h.setting ∙ g.setting;
  watching = h.watching;
}

-- what is told goes on by an item that is allowed
pub told_on : (before after : List Item) (v : View) (item : Item) → IsTold before v → OpensNew before item → is_allowed v item ≡ true → after ≡ before ++ item ∷ [] → IsTold after (A.after v item)
told_on before after v item told new may on = subst (λ (items : List Item). IsTold items (A.after v item)) (sym on) (told_goes_on before v item told new may)

pub goes_one : (before after : List Item) (item : Item) (w m : WatchState) → IsWatching before w → OpensNew before item → is_allowed w.view item ≡ true → poll_count item ≡ 0 → after ≡ before ++ item ∷ [] →
    m ≡ with_view (A.after w.view item) w → (A.after w.view item).phase ≡ Running → Goes before after w m
goes_one before after item w m k new may none on state running = subst (λ (x : WatchState). Goes before after w x) (sym state) (record {
  more = item ∷ [];
  grown = on;
  polls = (let n = none in omega (arith, n));
  setting = setting_after w.view item;
  watching = record { told = told_on before after w.view item k.told new may on; running = running; whole = k.whole };
})

-- what was told up to an item that is allowed is a history, whatever became of it
pub history_on : (before after : List Item) (v : View) (item : Item) → IsTold before v → OpensNew before item → is_allowed v item ≡ true → after ≡ before ++ item ∷ [] → AreTold (start v.setting) [] after
history_on before after v item told new may on =
    subst (λ (s : Setting). AreTold (start s) [] after) (setting_after v item) (told_on before after v item told new may on).told

-- an open line's socket is open
pub stands_open : (items : List Item) (v : View) (k s : ℕ) (at : IsAt v.sockets k s) → IsTold items v → (at.0).is_open ≡ true → standing_in items s ≡ Open
stands_open items v k s at told is =
    ap (standing_in items) (sym at.2) ∙ (each_at (LineStands items) v.sockets.lines k at.0 told.stand at.1).opened is
