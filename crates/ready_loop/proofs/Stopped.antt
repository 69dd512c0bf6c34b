-- Stopped: a loop stops at a finding, or at a call of the log that failed.
use Rattle.std.proofs.Common.{◌≡◌, Bool, true, false, refl, sym, ap, subst, ◌∙◌, List, [], ◌∷◌}
use Rattle.std.specs.Prelude.{Option, Some, None, Ok, Err, not, ◌||◌, is_some, slice_get}
use Rattle.std.proofs.lemmas.Bool.{false≢true}
use Rattle.definitions.specs.Lists.{is_empty}
use Rattle.definitions.specs.declared.logs.Entry.{Entry}
use Rattle.definitions.specs.declared.answers.Need.{Need}
use Rattle.definitions.specs.declared.findings.Finding.{Finding}
use Rattle.definitions.specs.World.{Game}
use Rattle.definitions.specs.Honest.{made_count}
use Rattle.definitions.specs.Findings.{findings, is_clean}
use Rattle.definition_laws.specs.First.{finding_of_log}
use Rattle.pilots.specs.Plans.{Plan}
use Rattle.socket_station.specs.Items.{Item}
use Rattle.loop_rules.specs.Licence.{bytes_wait, is_licensed}
use Rattle.ready_loop.specs.declared.stops.Stop.{Stop}
use Rattle.ready_loop.specs.declared.stops.Stop.TheVariants as T
use Rattle.ready_loop.specs.States.{LoopState, view_of}
use Rattle.ready_loop.specs.Stops.{StandsFaulty, StandsStopped, StandsUnchosen}
use Rattle.ready_loop.specs.Settling.{IsReady, Catches, Syncs}
use Rattle.ready_loop.proofs.Going.{goes_still}
use Rattle.ready_loop.proofs.Licensed.{not_waiting, not_running, not_clean, still_chooses}
use Rattle.ready_loop.proofs.Synced.{synced_whole, unsynced_cut}

found_unclean : (game : Game) (h : List Entry) (f : Finding) → finding_of_log game h ≡ Some f → is_clean game h ≡ false
unfolding is_clean
found_unclean game h f e = go (findings game (h ∷ [])) e
  where
    go : (fs : List Finding) → slice_get fs 0 ≡ Some f → is_empty fs ≡ false
    go [] e = absurd (let q : None ≡ Some f = e in cc)
    go (x ∷ fs) e = refl

-- where a loop stopped, no poll is licensed
pub stopped_unlicensed : (plan : Option Plan) (stop : Stop) (m : LoopState) → StandsStopped plan stop m → is_licensed (view_of m) ≡ false
stopped_unlicensed plan T.Done m w = not_waiting m w.whole.idle (ap (λ (ns : List Need). not (is_empty ns) || bytes_wait (made_count m.peer.entries) m.table) w.done.1 ∙ w.given)
stopped_unlicensed plan (T.Caught f) m w = not_clean m w.0.idle (found_unclean m.peer.game m.peer.entries f w.1)
stopped_unlicensed plan T.KeepFault m w = not_running m w.fault
stopped_unlicensed plan (T.OwnMove turn fault) m w = still_chooses m w.0.idle w.1.chooses

-- a call of the log failed
pub faulty_stops : (plan : Option Plan) (stop : Stop) (m : LoopState) → StandsFaulty stop m → StandsStopped plan stop m
faulty_stops plan stop m w = subst (λ (s : Stop). StandsStopped plan s m) (sym w.0) w.1

pub faulty_unchosen : (stop : Stop) (m : LoopState) → StandsFaulty stop m → StandsUnchosen stop m
faulty_unchosen stop m w = subst (λ (s : Stop). StandsUnchosen s m) (sym w.0) (record { stands = λ plan. w.1; refuses = tt })

pub unsynced_faulty : (stop : Stop) (items after : List Item) (l m : LoopState) → IsReady items l → Syncs (Err stop) items after l m → StandsFaulty stop m
unsynced_faulty stop items after l m w s = (s.same.0, unsynced_cut l m w.idle s.same.1)

-- ---- a finding

yes_of : (b : Bool) → not b ≡ false → b ≡ true
yes_of true e = refl
yes_of false e = absurd (false≢true (sym e))

pub catches_none : (items : List Item) (l : LoopState) (found : Option Finding) → IsReady items l → is_some found ≡ not (is_clean l.peer.game l.peer.entries) → found ≡ None → Catches (Ok tt) items items l l
catches_none items l found w clean none = record {
  goes = goes_still items l w.told;
  table = refl;
  stands = (refl, yes_of (is_clean l.peer.game l.peer.entries) (sym clean ∙ ap (λ (o : Option Finding). is_some o) none));
}

pub catches_unsynced : (stop : Stop) (items after : List Item) (l m : LoopState) → IsReady items l → Syncs (Err stop) items after l m → Catches (Err stop) items after l m
catches_unsynced stop items after l m w s = record {
  goes = s.goes;
  table = ap (λ (x : LoopState). x.table) s.same.1;
  stands = faulty_unchosen stop m (unsynced_faulty stop items after l m w s);
}

pub catches_found : (u : Unit {0}) (items after : List Item) (l m : LoopState) (found : Option Finding) (f : Finding) → IsReady items l → Syncs (Ok u) items after l m → found ≡ finding_of_log l.peer.game l.peer.entries → found ≡ Some f → Catches (Err (T.Caught f)) items after l m
catches_found u items after l m found f w s first some = record {
  goes = s.goes;
  table = ap (λ (x : LoopState). x.table) s.same;
  stands = record {
    stands = λ plan. (synced_whole u items after l m w.idle s, subst (λ (x : LoopState). finding_of_log x.peer.game x.peer.entries ≡ Some f) (sym s.same) (sym first ∙ some));
    refuses = refl;
  };
}
