-- Rounds: a logger is played to its end.
use Rattle.std.proofs.Common.{◌≡◌, ℕ, ◌+◌, ◌≤◌, ◌<◌, false, List, ◌++◌, refl, ap, ◌∙◌, arith}
use Rattle.socket_station.specs.Items.{Item, PollCall}
use Rattle.watch_rules.specs.Views.{Setting}
use Rattle.live_logger.specs.declared.polling.WatchRound.TheVariants.{On, Agreed, PollFault}
use Rattle.live_logger.specs.Going.{polls_of}
use Rattle.live_logger.specs.Polling.{LastIsPoll, Rounds, all_agreed}
use Rattle.live_logger.specs.States.{IsWatching, WatchState}
use Rattle.live_logger.proofs.Going.{polls_join}
use Rattle.watch_command.specs.Watches.{IsShown, StandsWatched}
use Rattle.watch_command.specs.declared.watching.Watched.TheVariants as W

-- some turn was not agreed at the last round, whose poll was the last call
pub record IsOpen (items : List Item) (w : WatchState) : Type 0 where
  pub turns : all_agreed w.view ≡ false
  pub last : LastIsPoll items

-- so many polls were made, each at the end of a round that ended as On
pub record IsUnderway (s : Setting) (made : ℕ) (items : List Item) (w : WatchState) : Type 0 where
  pub watching : IsWatching items w
  pub setting : w.view.setting ≡ s
  pub polls : polls_of items ≡ made
  pub some : 1 ≤ made → IsOpen items w

shown : (s : Setting) (items : List Item) (w : WatchState) → IsWatching items w →
    w.view.setting ≡ s → IsShown s items w
shown s items w is e = record { told = is.told; setting = e; whole = is.whole }

-- so many more polls were made
polls_on : (before after more : List Item) (made n : ℕ) → after ≡ before ++ more →
    polls_of before ≡ made → polls_of more ≡ n → polls_of after ≡ made + n
polls_on before after more made n on b m =
    let j = polls_join before more in
    let e : polls_of after ≡ polls_of (before ++ more) = ap polls_of on in
    omega (arith, j, e, b, m)

module _ (s : Setting) (polls made : ℕ) (before after : List Item) (w m : WatchState)
    (u : IsUnderway s made before w) where
  -- a round ended as On
  pub on : Rounds On before after w m → IsUnderway s (made + 1) after m
  on r = record {
    watching = r.1;
    setting = r.0.setting ∙ u.setting;
    polls = polls_on before after r.0.more made 1 r.0.grown u.polls r.0.polls;
    some = λ h. record { turns = r.2; last = r.3 };
  }

  pub agreed : made < polls → Rounds Agreed before after w m →
      StandsWatched s polls W.Agreed after m
  agreed less r =
      let p = polls_on before after r.0.more made 0 r.0.grown u.polls r.0.polls in
      record {
        shown = shown s after m r.0.watching (r.0.setting ∙ u.setting);
        agreed = r.1;
        licensed = r.2;
        few = omega (arith, p);
      }

  pub deaf : made < polls → Rounds PollFault before after w m →
      StandsWatched s polls W.PollFault after m
  deaf less r =
      let p = polls_on before after r.0.more made 0 r.0.grown u.polls r.0.polls in
      record {
        shown = record { told = r.0.told; setting = r.0.setting ∙ u.setting; whole = r.0.whole };
        fault = r.1;
        failed = (r.3.0, PollCall, r.3.1, refl);
        few = omega (arith, p);
      }
