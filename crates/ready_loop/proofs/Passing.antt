-- Passing: one pass after another until a poll is licensed or the run is over.
use Rattle.std.proofs.Common.{inl, inr, ◌≡◌, ℕ, ◌<◌, ◌≤◌, Bool, true, false, refl, sym, ap, subst, ◌∙◌, List, [], ◌∷◌, arith}
use Rattle.std.specs.Prelude.{Option, Some, None, Result, Ok, Err, not}
use Rattle.std.specs.List.{list_all}
use Rattle.std.proofs.lemmas.Bool.{false≢true, or_parts}
use Rattle.definitions.specs.Lists.{is_empty}
use Rattle.definitions.specs.declared.logs.Entry.{Entry}
use Rattle.definitions.specs.declared.answers.Need.{Need}
use Rattle.definitions.specs.World.{Game}
use Rattle.definitions.specs.Honest.{IsHonest, made_count}
use Rattle.definitions.specs.Needs.{needs, may_choose}
use Rattle.definitions.specs.Advance.{advance, next_made}
use Rattle.definitions.specs.Findings.{is_clean}
use Rattle.definition_laws.specs.Advancing.{IsDone, ExactlyOne}
use Rattle.definition_laws.proofs.Standing.{advanced_one_way}
use Rattle.definition_laws.proofs.ForPeers.{advance_still}
use Rattle.pilots.specs.Plans.{Plan}
use Rattle.socket_station.specs.Items.{Item}
use Rattle.loop_rules.specs.Licence.{all_is_given, all_is_shut, is_licensed}
use Rattle.loop_rules.specs.Rules.{wants_read}
use Rattle.loop_rules.specs.Tables.{Table}
use Rattle.peer_core.specs.Standing.{IsStanding}
use Rattle.socket_table.specs.Staying.{Milder}
use Rattle.socket_table.proofs.Milder.{milder_then, milder_reads, milder_shut, read_where_shut}
use Rattle.ready_loop.specs.declared.settling.Settled.TheVariants as S
use Rattle.ready_loop.specs.declared.stops.Stop.{Stop}
use Rattle.ready_loop.specs.declared.stops.Stop.TheVariants as T
use Rattle.ready_loop.specs.States.{LoopState, view_of}
use Rattle.ready_loop.specs.Steps.{with_table}
use Rattle.ready_loop.specs.Going.{Goes, Grows, IsSteady, undialled}
use Rattle.ready_loop.specs.Handling.{IsReadyToRead, ReadsAll, Advances}
use Rattle.ready_loop.specs.Serving.{IsServing, ShutsAll, WritesAll, IsNextDial, Dials}
use Rattle.ready_loop.specs.Waiting.{waits_for}
use Rattle.ready_loop.specs.Stops.{IsWhole, IsOver, is_idle, settled_of, StandsStopped}
use Rattle.ready_loop.specs.Settling.{IsReady, IsPlaying, ChoosesIn, Plays, Syncs, Catches, StandsPassed, Passes, Settles, ServesSo, IsReadOut}
use Rattle.own_moves.specs.Choices.{Chooser}
use Rattle.ready_loop.proofs.Going.{goes_then, grows, grows_then, goes_grows, grows_goes}
use Rattle.ready_loop.proofs.Choices.{chooses_none, chooses_then, goes_chooses, chooses_goes}
use Rattle.ready_loop.proofs.Served.{serving_on}
use Rattle.ready_loop.proofs.Licensed.{MayWait, licensed}
use Rattle.ready_loop.proofs.Synced.{synced_whole}
use Rattle.ready_loop.proofs.Stopped.{stopped_unlicensed, faulty_stops, faulty_unchosen, unsynced_faulty}

-- ---- what stands after the writes of a pass

serving_first : (u : Unit {0}) (mid after : List Item) (b c : LoopState) → IsSteady b → is_clean b.peer.game b.peer.entries ≡ true → Syncs (Ok u) mid after b c → IsServing after c
serving_first u mid after b c steady clean s =
    let whole = synced_whole u mid after b c steady.idle s in
    record {
      told = s.goes.told;
      steady = record { idle = whole.idle; made = subst (λ (x : LoopState). next_made x.peer.game x.peer.me x.peer.entries ≡ None) (sym s.same) steady.made };
      clean = subst (λ (x : LoopState). is_clean x.peer.game x.peer.entries ≡ true) (sym s.same) clean;
      synced = whole.synced;
    }

-- the sockets were read out, all that asks for it is shut, and all that is due is given
pub record Served (items : List Item) (c e : LoopState) : Type 0 where
  pub serving : IsServing items e
  pub milder : Milder c.table e.table
  pub same : e ≡ with_table e.table c
  pub given : all_is_given (made_count e.peer.entries) e.table ≡ true
  pub shut : all_is_shut e.table ≡ true

pub served_out : (i j k : List Item) (c d e : LoopState) → IsServing i c → ShutsAll i j c d → WritesAll j k d e → Served k c e
served_out i j k c d e w s g = record {
  serving = serving_on j k d e (serving_on i j c d w s.serves) g.serves;
  milder = milder_then c.table d.table e.table s.serves.milder g.serves.milder;
  same = g.serves.same ∙ ap (with_table e.table) s.serves.same;
  given = g.given;
  shut = milder_shut d.table e.table g.serves.milder s.shut;
}

-- ---- the end of a pass

empty_of : (ns : List Need) → not (is_empty ns) ≡ false → ns ≡ []
empty_of [] e = refl
empty_of (n ∷ ns) e = absurd (cc)

-- where nobody is waited for and no move may be chosen, the log is done
done_of : (game : Game) (me : ℕ) (h : List Entry) → 1 ≤ game.ahead → IsHonest game me h → is_clean game h ≡ true → next_made game me h ≡ None → may_choose game me h ≡ false → needs game me h ≡ [] → IsDone game me h
done_of game me h d honest clean made chosen none =
    let still : advance game me h ≡ h = advance_still game me h made in
    pick (subst (λ (g : List Entry). ExactlyOne (may_choose game me g ≡ true) (needs game me g ≡ [] → ⊥) (IsDone game me g)) still (advanced_one_way game me h d honest clean))
  where
    pick : ExactlyOne (may_choose game me h ≡ true) (needs game me h ≡ [] → ⊥) (IsDone game me h) → IsDone game me h
    pick (inl w) = absurd (false≢true (sym chosen ∙ w.0))
    pick (inr (inl w)) = absurd (w.1 none)
    pick (inr (inr w)) = w.2

done_stands : (after : List Item) (e : LoopState) → MayWait after e → 1 ≤ e.peer.game.ahead → IsHonest e.peer.game e.peer.me e.peer.entries → waits_for e ≡ false → IsOver e
done_stands after e w d honest none =
    let parts = or_parts _ _ none in
    record {
      whole = record { idle = w.serving.steady.idle; synced = w.serving.synced };
      clean = w.serving.clean;
      done = done_of e.peer.game e.peer.me e.peer.entries d honest w.serving.clean w.serving.steady.made w.chosen (empty_of (needs e.peer.game e.peer.me e.peer.entries) parts.0);
      given = parts.1;
    }

idle_stands : (after : List Item) (e : LoopState) → MayWait after e → waits_for e ≡ true → IsNextDial e None → IsWhole e × (is_licensed (view_of e) ≡ true)
idle_stands after e w waits none = (record { idle = w.serving.steady.idle; synced = w.serving.synced }, licensed after e w waits none)

dial_stands : (before mid after : List Item) (l e f : LoopState) → Goes before mid l e → Dials mid after e f → IsReadyToRead after f × (undialled f < undialled l)
dial_stands before mid after l e f g d = (record { told = d.serving.told; steady = d.serving.steady; clean = d.serving.clean }, (let a = g.undialled in let b = d.less in omega (arith, a, b)))

-- ---- serving

pub serve_next : (items mid : List Item) (l d : LoopState) → IsServing items l → ShutsAll items mid l d → IsServing mid d
serve_next items mid l d w s = serving_on items mid l d w s.serves

serve_waits : (i j k : List Item) (l d e : LoopState) → IsServing i l → IsReadOut l → ShutsAll i j l d → WritesAll j k d e → MayWait k e
serve_waits i j k l d e w out s g =
    let served = served_out i j k l d e w s g in
    record {
      serving = served.serving;
      chosen = subst (λ (x : LoopState). may_choose x.peer.game x.peer.me x.peer.entries ≡ false) (sym served.same) out.chosen;
      read = read_where_shut e.table (milder_reads l.table e.table served.milder out.read) served.shut;
      given = served.given;
      shut = served.shut;
    }

serve_goes : (i j k : List Item) (l d e : LoopState) → ShutsAll i j l d → WritesAll j k d e → Goes i k l e
serve_goes i j k l d e s g = goes_then i j k l d e s.serves.goes g.serves.goes

pub serve_done : (i j k : List Item) (l d e : LoopState) (r : Bool) → IsServing i l → IsReadOut l → ShutsAll i j l d → WritesAll j k d e → IsStanding e.peer → r ≡ waits_for e → r ≡ false → ServesSo (Err T.Done) i k l e
serve_done i j k l d e r w out s g facts is none =
    record { goes = serve_goes i j k l d e s g; refuses = refl; stands = λ plan. done_stands k e (serve_waits i j k l d e w out s g) facts.session.ahead.0 facts.honest (sym is ∙ none) }

pub serve_idle : (i j k : List Item) (l d e : LoopState) (r : Bool) (next : Option ℕ) → IsServing i l → IsReadOut l → ShutsAll i j l d → WritesAll j k d e → r ≡ waits_for e → r ≡ true → IsNextDial e next → next ≡ None → ServesSo (Ok false) i k l e
serve_idle i j k l d e r next w out s g is sure dial none =
    record { goes = serve_goes i j k l d e s g; refuses = refl; stands = λ plan. idle_stands k e (serve_waits i j k l d e w out s g) (sym is ∙ sure) (subst (IsNextDial e) none dial) }

pub serve_serving : (i j k : List Item) (l d e : LoopState) → IsServing i l → ShutsAll i j l d → WritesAll j k d e → IsServing k e
serve_serving i j k l d e w s g = (served_out i j k l d e w s g).serving

pub serve_dial : (i j k m : List Item) (l d e f : LoopState) → ShutsAll i j l d → WritesAll j k d e → Dials k m e f → ServesSo (Ok true) i m l f
serve_dial i j k m l d e f s g dial =
    let goes = serve_goes i j k l d e s g in
    record { goes = goes_then i k m l e f goes dial.goes; refuses = refl; stands = λ plan. dial_stands i k m l e f goes dial }

pub next_seat : (e : LoopState) (next : Option ℕ) (seat : ℕ) → IsNextDial e next → next ≡ Some seat → IsNextDial e (Some seat)
next_seat e next seat w is = subst (IsNextDial e) is w

-- ---- a pass

pub pass_unread : (stop : Stop) (by : Chooser) (before mid : List Item) (l a : LoopState) → ReadsAll (Err stop) before mid l a → Passes by by (Err stop) before mid l a
pass_unread stop by before mid l a w = record { refused = false; refuses = w.stands.refuses; choices = chooses_none by before mid l a w.goes; grows = grows before mid l a w.goes; stands = w.stands.stands by.plan }

pub pass_playing : (u : Unit {0}) (before mid : List Item) (l a : LoopState) → ReadsAll (Ok u) before mid l a → IsPlaying mid a
pass_playing u before mid l a w = record { told = w.goes.told; steady = w.stands.0 }

-- the pass up to the choosing
pass_grows : (u : Unit {0}) (by to : Chooser) (r : Result (Unit {0}) Stop) (i j k : List Item) (l a b : LoopState) → ReadsAll (Ok u) i j l a → (p : Plays by to r j k a b) → ChoosesIn by to p.refused l b × Grows i k l b
pass_grows u by to r i j k l a b w p = (goes_chooses by to p.refused i j l a b w.goes p.choices, goes_grows i j k l a b w.goes p.grows)

pub pass_unplayed : (u : Unit {0}) (stop : Stop) (by to : Chooser) (i j k : List Item) (l a b : LoopState) → ReadsAll (Ok u) i j l a → Plays by to (Err stop) j k a b → Passes by to (Err stop) i k l b
pass_unplayed u stop by to i j k l a b w p =
    let g = pass_grows u by to (Err stop) i j k l a b w p in
    record { refused = p.refused; refuses = p.refuses; choices = g.0; grows = g.1; stands = p.stands }

pub pass_ready : (u : Unit {0}) (by to : Chooser) (j k : List Item) (a b : LoopState) → Plays by to (Ok u) j k a b → IsReady k b
pass_ready u by to j k a b p = record { told = p.grows.told; idle = p.stands.steady.idle }

-- the pass up to the sync
pass_synced : (u v : Unit {0}) (by to : Chooser) (i j k n : List Item) (l a b d : LoopState) → ReadsAll (Ok u) i j l a → Plays by to (Ok v) j k a b → Goes k n b d → ChoosesIn by to false l d × Grows i n l d
pass_synced u v by to i j k n l a b d w p goes =
    let g = pass_grows u by to (Ok v) i j k l a b w p in
    (chooses_goes by to false k n l b d g.1.setting (subst (λ (t : Bool). ChoosesIn by to t l b) p.refuses g.0) goes, grows_goes i k n l b d g.1 goes)

pub pass_unsynced : (u v : Unit {0}) (stop : Stop) (by to : Chooser) (i j k m : List Item) (l a b c : LoopState) → ReadsAll (Ok u) i j l a → Plays by to (Ok v) j k a b → Syncs (Err stop) k m b c → Passes by to (Err stop) i m l c
pass_unsynced u v stop by to i j k m l a b c w p y =
    let g = pass_synced u v by to i j k m l a b c w p y.goes in
    let faulty = unsynced_faulty stop k m b c (pass_ready v by to j k a b p) y in
    record { refused = false; refuses = (faulty_unchosen stop c faulty).refuses; choices = g.0; grows = g.1; stands = faulty_stops by.plan stop c faulty }

pub pass_serving : (u v x : Unit {0}) (by to : Chooser) (i j k m : List Item) (l a b c : LoopState) → ReadsAll (Ok u) i j l a → Plays by to (Ok v) j k a b → Syncs (Ok x) k m b c → IsServing m c × IsReadOut c
pass_serving u v x by to i j k m l a b c w p y = (
  serving_first x k m b c p.stands.steady (p.stands.clean ∙ w.stands.1) y,
  record {
    read = subst (λ t. list_all (λ z. not (wants_read t z)) t.lines ≡ true) (sym (ap (λ (z : LoopState). z.table) y.same ∙ p.stands.table)) w.out;
    chosen = subst (λ (z : LoopState). may_choose z.peer.game z.peer.me z.peer.entries ≡ false) (sym y.same) p.stands.all;
  },
)

pub pass_serves : (u v x : Unit {0}) (r : Result Bool Stop) (by to : Chooser) (i j k m n : List Item) (l a b c d : LoopState) → ReadsAll (Ok u) i j l a → Plays by to (Ok v) j k a b → Syncs (Ok x) k m b c → ServesSo r m n c d → Passes by to r i n l d
pass_serves u v x r by to i j k m n l a b c d w p y s =
    let g = pass_synced u v by to i j k n l a b d w p (goes_then k m n b c d y.goes s.goes) in
    record {
      refused = false;
      refuses = s.refuses;
      choices = g.0;
      grows = g.1;
      stands = go r (let one = w.goes.undialled in let two = p.grows.undialled in let three = y.goes.undialled in omega (arith, one, two, three)) (s.stands by.plan);
    }
  where
    go : (q : Result Bool Stop) → undialled c ≤ undialled l → StandsPassed by.plan q c d n → StandsPassed by.plan q l d n
    go (Ok true) le t = (t.0, (let lt = t.1 in omega (arith, lt, le)))
    go (Ok false) le t = t
    go (Err stop) le t = t

-- ---- a settling

pub record Settling (by to : Chooser) (before items : List Item) (l m : LoopState) : Type 0 where
  pub choices : ChoosesIn by to false l m
  pub grows : Grows before items l m
  pub ready : IsReadyToRead items m

pub not_idle : (stop : Stop) → is_idle (settled_of stop) ≡ false
not_idle T.Done = refl
not_idle (T.Caught f) = refl
not_idle T.KeepFault = refl
not_idle (T.OwnMove turn fault) = refl

pub settle_fault : (stop : Stop) (by : Chooser) (before mid : List Item) (l a : LoopState) → Advances (Err stop) before mid l a → Settles by by (settled_of stop) before mid l a
settle_fault stop by before mid l a v = record {
  refused = false;
  refuses = (faulty_unchosen stop a v.stands).refuses;
  choices = chooses_none by before mid l a v.goes;
  grows = grows before mid l a v.goes;
  stands = faulty_stops by.plan stop a v.stands;
  licensed = not_idle stop ∙ sym (stopped_unlicensed by.plan stop a (faulty_stops by.plan stop a v.stands));
}

pub settle_first : (u : Unit {0}) (before mid : List Item) (l a : LoopState) → IsReady before l → Advances (Ok u) before mid l a → IsReady mid a
settle_first u before mid l a w v =
    record { told = v.goes.told; idle = record { running = v.stands.0; kept = v.stands.1.kept; waiting = ap (λ (t : Table). t.waiting) v.table ∙ w.idle.waiting; handled = v.handled ∙ w.idle.handled } }

pub settle_caught : (u : Unit {0}) (stop : Stop) (by : Chooser) (before mid after : List Item) (l a n : LoopState) → Advances (Ok u) before mid l a → Catches (Err stop) mid after a n → Settles by by (settled_of stop) before after l n
settle_caught u stop by before mid after l a n v c =
    let all = goes_then before mid after l a n v.goes c.goes in
    record {
      refused = false;
      refuses = c.stands.refuses;
      choices = chooses_none by before after l n all;
      grows = grows before after l n all;
      stands = c.stands.stands by.plan;
      licensed = not_idle stop ∙ sym (stopped_unlicensed by.plan stop n (c.stands.stands by.plan));
    }

pub settle_reads : (u v : Unit {0}) (by : Chooser) (before mid after : List Item) (l a n : LoopState) → IsReady before l → Advances (Ok u) before mid l a → Catches (Ok v) mid after a n → Settling by by before after l n
settle_reads u v by before mid after l a n w g c =
    let all = goes_then before mid after l a n g.goes c.goes in
    let ready = settle_first u before mid l a w g in
    record {
      choices = chooses_none by before after l n all;
      grows = grows before after l n all;
      ready = record {
        told = c.goes.told;
        steady = subst IsSteady (sym c.stands.0) (record { idle = ready.idle; made = g.stands.1.made });
        clean = subst (λ (x : LoopState). is_clean x.peer.game x.peer.entries ≡ true) (sym c.stands.0) c.stands.1;
      };
    }

pub settle_stops : (stop : Stop) (by mid to : Chooser) (before items after : List Item) (l m n : LoopState) → Settling by mid before items l m → Passes mid to (Err stop) items after m n → Settles by to (settled_of stop) before after l n
settle_stops stop by mid to before items after l m n w p = record {
  refused = p.refused;
  refuses = p.refuses;
  choices = chooses_then by mid to p.refused l m n w.grows.setting w.choices p.choices;
  grows = grows_then before items after l m n w.grows p.grows;
  stands = subst (λ (plan : Option Plan). StandsStopped plan stop n) w.choices.plan p.stands;
  licensed = not_idle stop ∙ sym (stopped_unlicensed mid.plan stop n p.stands);
}

passed_as : (dialled b : Bool) (mid to : Chooser) (items after : List Item) (m n : LoopState) → dialled ≡ b → Passes mid to (Ok dialled) items after m n → Passes mid to (Ok b) items after m n
passed_as dialled b mid to items after m n is p = subst (λ (d : Bool). Passes mid to (Ok d) items after m n) is p

pub settle_ends : (dialled : Bool) (by mid to : Chooser) (before items after : List Item) (l m n : LoopState) → dialled ≡ false → Settling by mid before items l m → Passes mid to (Ok dialled) items after m n → Settles by to S.Idle before after l n
settle_ends dialled by mid to before items after l m n none w passes =
    let p = passed_as dialled false mid to items after m n none passes in
    record {
      refused = p.refused;
      refuses = p.refuses;
      choices = chooses_then by mid to p.refused l m n w.grows.setting w.choices p.choices;
      grows = grows_then before items after l m n w.grows p.grows;
      stands = p.stands.0;
      licensed = sym p.stands.1;
    }

pub settles_on : (dialled : Bool) (by mid to : Chooser) (before items after : List Item) (l m n : LoopState) → dialled ≡ true → Settling by mid before items l m → Passes mid to (Ok dialled) items after m n → Settling by to before after l n × (undialled n < undialled m)
settles_on dialled by mid to before items after l m n sure w passes =
    let p = passed_as dialled true mid to items after m n sure passes in (
      record {
        choices = chooses_then by mid to false l m n w.grows.setting w.choices (subst (λ (b : Bool). ChoosesIn mid to b m n) p.refuses p.choices);
        grows = grows_then before items after l m n w.grows p.grows;
        ready = p.stands.0;
      },
      p.stands.1,
    )
