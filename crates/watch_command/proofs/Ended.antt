-- Ended: what is written once a logger came to its end.
use Rattle.std.proofs.Common.{◌≡◌, ℕ, true, List, refl, ap, sym, ◌∙◌, subst}
use Rattle.station.specs.Sinks.{SinkState}
use Rattle.log_streams.specs.Streams.{Stream}
use Rattle.socket_station.specs.Items.{Item}
use Rattle.watch_rules.specs.After.{view_of}
use Rattle.watch_rules.specs.Views.{Setting}
use Rattle.live_logger.specs.States.{WatchState, new_watch, setting_for}
use Rattle.run_frame.specs.Frame.{Answer, Ran}
use Rattle.run_frame.specs.declared.statuses.Status.{Status}
use Rattle.watch_command.specs.declared.opening.WatchSource.{WatchSource}
use Rattle.watch_command.specs.declared.watching.Watched.{Watched}
use Rattle.watch_command.specs.declared.watching.Watched.TheVariants as W
use Rattle.watch_command.specs.Plays.{PlaysLogger}
use Rattle.watch_command.specs.Watches.{IsShown, StandsWatched, watch_answer}

-- what is printed is by the streams that the history gives
shown_streams : (s : Setting) (items : List Item) (w : WatchState) → IsShown s items w →
    w.view.streams ≡ (view_of s items).streams
shown_streams s items w h =
    ap (λ v. v.streams) (sym h.told.shown)
    ∙ ap (λ (x : Setting). (view_of x items).streams) h.setting

-- what is due at this end is due by what the history gives
abbrev Same : Setting → List Item → WatchState → Watched → Type 0
Same s items w result =
    watch_answer w.view.setting.game w.view.streams result
    ≡ watch_answer s.game (view_of s items).streams result

audit_same : (s : Setting) (items : List Item) (w : WatchState) → IsShown s items w →
    (result : Watched) → Same s items w result
audit_same s items w h result =
    ap (λ (x : Setting). watch_answer x.game w.view.streams result) h.setting
    ∙ ap (λ (x : List Stream). watch_answer s.game x result) (shown_streams s items w h)

answer_same : (s : Setting) (polls : ℕ) (result : Watched) (items : List Item) (w : WatchState) →
    StandsWatched s polls result items w → Same s items w result
answer_same s polls W.Agreed items w h = audit_same s items w h.shown W.Agreed
answer_same s polls W.Spent items w h = audit_same s items w h.shown W.Spent
answer_same s polls W.PollFault items w h = refl
answer_same s polls W.NoMemory items w h = refl

-- a logger of what was opened was played to its end, which was written
pub played : (s : WatchSource) (polls : ℕ) (items : List Item) (a b : SinkState) (status : Status)
    (result : Watched) (new w : WatchState) → new ≡ new_watch s.session s.roster →
    StandsWatched new.view.setting polls result items w →
    Ran a b (watch_answer w.view.setting.game w.view.streams result) true ⊥ ⊥ status →
    PlaysLogger s polls items a b status
played s polls items a b status result new w is stands ran =
    let by : Setting = setting_for s.session s.roster in
    let same : new.view.setting ≡ by = ap (λ (x : WatchState). x.view.setting) is in
    let Stands : Setting → Type 0 = λ x. StandsWatched x polls result items w in
    let so : Stands by = subst Stands same stands in
    record {
      result = result;
      last = w;
      stands = so;
      written =
          subst (λ (x : Answer). Ran a b x true ⊥ ⊥ status)
          (answer_same by polls result items w so) ran;
    }
