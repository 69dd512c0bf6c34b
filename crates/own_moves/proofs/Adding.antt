-- Adding: own entries are added to a peer's log.
use Rattle.std.proofs.Common.{◌≡◌, ℕ, ◌+◌, ◌-◌, ◌<◌, ◌≤◌, Bool, true, false, refl, sym, ap, subst, ◌∙◌, List, [], ◌∷◌, ◌++◌, append_assoc, append-nil, arith, length}
use Rattle.std.proofs.lemmas.Bool.{false≢true}
use Rattle.std.specs.Prelude.{Option, Some, None, IfSome, not, if◌then◌else◌}
use Rattle.definitions.specs.declared.world.Move.{Move}
use Rattle.definitions.specs.declared.world.MoveFault.{MoveFault}
use Rattle.definitions.specs.declared.openings.Nonce.{Nonce}
use Rattle.definitions.specs.declared.openings.Opening.{Opening}
use Rattle.definitions.specs.declared.answers.OwnFault.{OwnFault}
use Rattle.definitions.specs.declared.answers.OwnFault.TheVariants.{NotNow, Illegal}
use Rattle.definitions.specs.declared.logs.Entry.{Entry}
use Rattle.definitions.specs.declared.logs.Entry.TheVariants.{Chose}
use Rattle.definitions.specs.World.{Game}
use Rattle.definitions.specs.Logs.{chosen}
use Rattle.definitions.specs.Moves.{move_fault}
use Rattle.definitions.specs.Honest.{chosen_track}
use Rattle.definitions.specs.Needs.{may_choose, choice_fault, own_fault}
use Rattle.definitions.specs.Advance.{advance, next_made}
use Rattle.pilots.specs.Plans.{Plan}
use Rattle.peer_core.specs.Views.{PeerState, choice_of}
use Rattle.peer_core.specs.Standing.{IsStanding}
use Rattle.peer_core.specs.declared.views.Choice.{Choice}
use Rattle.own_moves.specs.declared.making.Moves.{Moves}
use Rattle.own_moves.specs.declared.making.Moves.TheVariants as M
use Rattle.own_moves.specs.Choices.{Chooser, ChoosesBy}
use Rattle.peer_rules.specs.Order.{OwnRun}
use Rattle.own_moves.specs.Making.{with_more, are_legal, is_refused, illegal_of, IsOwnMove, PutsChoice, HasChoice, PutsMove, StandsAs, StandsChosen, Adds, Chooses, MakesAll}
use Rattle.own_moves.proofs.Runs.{run_then, chose_next, Advanced, advanced, chosen_made, chosen_one}
use Rattle.own_moves.proofs.Choices.{IsDrawn, chose_none, chose_then, chose_still, chose_one, chose_refused}

-- with nothing more a peer is the same
with_none : (p : PeerState) → p ≡ with_more [] p
with_none p = ap (λ (es : List Entry). record p { entries = es }) (sym (append-nil p.entries))

-- ---- the own frames that may be made

pub adds_made : (by : Chooser) (p q : PeerState) → 1 ≤ p.game.ahead → q ≡ record p { entries = advance p.game p.me p.entries } → Adds by by false p q
adds_made by p q d e =
    let a = advanced p.game p.me p.entries d in
    record {
      more = a.more;
      state = e ∙ ap (λ (es : List Entry). record p { entries = es }) a.is;
      own = a.run;
      made = a.ends;
      choices = chose_none p.game p.me by p.entries (p.entries ++ a.more) a.chose;
    }

-- ---- one after the other

pub adds_then : (by mid to : Chooser) (refused : Bool) (p q r : PeerState) → Adds by mid false p q → Adds mid to refused q r → Adds by to refused p r
adds_then by mid to refused p q r a b = record {
  more = a.more ++ b.more;
  state = b.state ∙ ap (with_more b.more) a.state ∙ ap (λ (es : List Entry). record p { entries = es }) (append_assoc p.entries a.more b.more);
  own = run_then p.game p.me p.entries a.more b.more a.own (subst (λ (x : PeerState). OwnRun x.game x.me x.entries b.more) a.state b.own);
  made = subst (λ (es : List Entry). next_made p.game p.me es ≡ None) (append_assoc p.entries a.more b.more) (subst (λ (x : PeerState). next_made x.game x.me (x.entries ++ b.more) ≡ None) a.state b.made);
  choices = chose_then p.game p.me by mid to refused p.entries (p.entries ++ a.more) (p.entries ++ (a.more ++ b.more)) a.choices
      (subst (λ (es : List Entry). ChoosesBy p.game p.me mid to refused (p.entries ++ a.more) es) (append_assoc p.entries a.more b.more)
      (subst (λ (x : PeerState). ChoosesBy x.game x.me mid to refused x.entries (x.entries ++ b.more)) a.state b.choices));
}

-- ---- one choice is put into the log, or is not

puts_none : (p q : PeerState) (mv : Move) (nonce : Nonce) (fault : Option MoveFault) → PutsChoice mv nonce fault p q → fault ≡ None → PutsChoice mv nonce None p q
puts_none p q mv nonce fault w none = subst (λ (o : Option MoveFault). PutsChoice mv nonce o p q) none w

pub puts_move : (by to : Chooser) (p q : PeerState) (mv : Move) (nonce : Nonce) (fault : Option MoveFault) → IsDrawn p by to mv nonce → PutsChoice mv nonce fault p q → fault ≡ None → PutsMove by to M.Legal p q
puts_move by to p q mv nonce fault d w none =
    let k = puts_none p q mv nonce fault w none in
    record {
      choices = subst (λ (x : PeerState). ChoosesBy p.game p.me by to false p.entries x.entries) (sym k.0) (chose_one p by to mv nonce d);
      stands = record { mv = mv; nonce = nonce; state = k.0; standing = k.1 };
    }

pub own_move : (by to : Chooser) (p q : PeerState) (choice : Choice) (mv : Move) (nonce : Nonce) (fault : Option MoveFault) (f : MoveFault) → IsDrawn p by to mv nonce → may_choose p.game p.me p.entries ≡ true →
    choice ≡ choice_of p.game p.me p.entries → PutsChoice mv nonce fault p q → fault ≡ Some f → PutsMove by to (M.OwnMove choice.turn f) p q
own_move by to p q choice mv nonce fault f d may is w some =
    let k = subst (λ (o : Option MoveFault). PutsChoice mv nonce o p q) some w in
    record {
      choices = chose_refused p by to mv nonce q.entries d (ap (λ (x : PeerState). chosen p.me x.entries) k.0);
      stands = (
        k.0,
        record {
          mv = mv;
          chooses = may;
          turn_is = ap (λ (x : Choice). x.turn) is;
          planned = subst (λ (x : Choice). IfSome by.plan (λ plan. mv ≡ plan (chosen_track p.game p.me p.entries) x.turn)) (sym is) d.planned;
          refused = k.1;
        },
      );
    }

pub puts_choice : (p q : PeerState) (mv : Move) (nonce : Nonce) → q ≡ record p { entries = p.entries ++ Chose (length (chosen p.me p.entries)) mv nonce ∷ [] } → IsStanding q → PutsChoice mv nonce None p q
puts_choice p q mv nonce e s = (e, s)

not_now : (game : Game) (me : ℕ) (h : List Entry) (mv : Move) → may_choose game me h ≡ true → choice_fault game me h mv ≡ Some NotNow → ⊥
unfolding choice_fault
not_now game me h mv may e =
    go (move_fault game me (chosen_track game me h) mv)
    (ap (λ (b : Bool). if not b then Some NotNow else own_fault (move_fault game me (chosen_track game me h) mv)) (sym may) ∙ e)
  where
    go : (o : Option MoveFault) → own_fault o ≡ Some NotNow → ⊥
    go None e = cc
    go (Some f) e = cc

pub puts_fault : (p q : PeerState) (mv : Move) (nonce : Nonce) (fault : OwnFault) → may_choose p.game p.me p.entries ≡ true → choice_fault p.game p.me p.entries mv ≡ Some fault → q ≡ p → PutsChoice mv nonce (illegal_of fault) p q
puts_fault p q mv nonce NotNow may refused e = absurd (not_now p.game p.me p.entries mv may refused)
puts_fault p q mv nonce (Illegal fault) may refused e = (e, refused)

pub legal_is : (made : Moves) → are_legal made ≡ true → made ≡ M.Legal
legal_is M.Legal e = refl
legal_is (M.OwnMove turn fault) e = absurd (false≢true e)

-- ---- and the own frames are made that it lets be made

-- the move is refused
refused_adds : (by to : Chooser) (p q : PeerState) → next_made p.game p.me p.entries ≡ None → q ≡ p → ChoosesBy p.game p.me by to true p.entries q.entries → Adds by to true p q
refused_adds by to p q none e c = record {
  more = [];
  state = e ∙ with_none p;
  own = tt;
  made = ap (next_made p.game p.me) (append-nil p.entries) ∙ none;
  choices = chose_still p.game p.me by to true p.entries q.entries (p.entries ++ []) c (ap (chosen p.me) (append-nil p.entries) ∙ sym (ap (λ (x : PeerState). chosen p.me x.entries) e));
}

pub chooses_off : (by to : Chooser) (made : Moves) (r : Bool) (p q : PeerState) → next_made p.game p.me p.entries ≡ None → PutsMove by to made p q → r ≡ are_legal made → r ≡ false → Chooses by to made p q
chooses_off by to M.Legal r p q none w is off = absurd (false≢true (sym off ∙ is))
chooses_off by to (M.OwnMove turn fault) r p q none w is off = record {
  adds = refused_adds by to p q none w.stands.0 w.choices;
  stands = subst (IsOwnMove by.plan turn fault) (sym w.stands.0) w.stands.1;
}

-- the choice is in the log
chose_adds : (by to : Chooser) (p q r : PeerState) → next_made p.game p.me p.entries ≡ None → PutsMove by to M.Legal p q → r ≡ record q { entries = advance q.game q.me q.entries } → Adds by to false p r
chose_adds by to p q r none w ad = record {
  more = c ∷ a.more;
  state = ad ∙ ap (λ (x : PeerState). record x { entries = advance x.game x.me x.entries }) k.state ∙ ap (λ (es : List Entry). record p { entries = es }) (a.is ∙ append_assoc p.entries (c ∷ []) a.more);
  own = (tt, chose_next p.game p.me p.entries (length (chosen p.me p.entries)) k.mv k.nonce (subst IsStanding k.state k.standing).honest none, a.run);
  made = subst (λ (es : List Entry). next_made p.game p.me es ≡ None) (append_assoc p.entries (c ∷ []) a.more) a.ends;
  choices = subst (λ (es : List Entry). ChoosesBy p.game p.me by to false p.entries es) (append_assoc p.entries (c ∷ []) a.more)
      (chose_still p.game p.me by to false p.entries h (h ++ a.more) (subst (λ (x : PeerState). ChoosesBy p.game p.me by to false p.entries x.entries) k.state w.choices) a.chose);
}
  where
    k : HasChoice p q
    k = w.stands

    c : Entry
    c = Chose (length (chosen p.me p.entries)) k.mv k.nonce

    h : List Entry
    h = p.entries ++ c ∷ []

    a : Advanced p.game p.me h
    a = advanced p.game p.me h (subst IsStanding k.state k.standing).session.ahead.0

chose_counts : (p q r : PeerState) → HasChoice p q → r ≡ record q { entries = advance q.game q.me q.entries } → length (chosen r.me r.entries) ≡ length (chosen p.me p.entries) + 1
chose_counts p q r k ad =
    let t = length (chosen p.me p.entries) in
    ap (λ (x : PeerState). length (chosen x.me x.entries)) (ad ∙ ap (λ (x : PeerState). record x { entries = advance x.game x.me x.entries }) k.state)
    ∙ ap (λ (os : List Opening). length os) (chosen_made p.game p.me (p.entries ++ Chose t k.mv k.nonce ∷ []))
    ∙ chosen_one p.me p.entries t k.mv k.nonce

pub chooses_on : (by to : Chooser) (made : Moves) (r : Bool) (p q s : PeerState) → next_made p.game p.me p.entries ≡ None → PutsMove by to made p q → r ≡ are_legal made → r ≡ true → s ≡ record q { entries = advance q.game q.me q.entries } → Chooses by to M.Legal p s
chooses_on by to made r p q s none w is on ad =
    let k = subst (λ (m : Moves). PutsMove by to m p q) (legal_is made (sym is ∙ on)) w in
    record { adds = chose_adds by to p q s none k ad; stands = chose_counts p q s k.stands ad }

-- ---- all choices

pub adds_on : (by mid to : Chooser) (made : Moves) (r : Bool) (p q s : PeerState) → Adds by mid false p q → Chooses mid to made q s → r ≡ are_legal made → r ≡ true → Adds by to false p s
adds_on by mid to made r p q s a c is on =
    adds_then by mid to false p q s a (subst (λ (m : Moves). Chooses mid to m q s) (legal_is made (sym is ∙ on)) c).adds

pub chosen_smaller : (mid to : Chooser) (made : Moves) (r : Bool) (q s : PeerState) → Chooses mid to made q s → r ≡ are_legal made → r ≡ true → length (chosen s.me s.entries) ≤ s.game.turns →
    s.game.turns - length (chosen s.me s.entries) < q.game.turns - length (chosen q.me q.entries)
chosen_smaller mid to made r q s c is on few =
    let k = subst (λ (m : Moves). Chooses mid to m q s) (legal_is made (sym is ∙ on)) c in
    let one = k.stands in
    let turns : s.game.turns ≡ q.game.turns = ap (λ (x : PeerState). x.game.turns) k.adds.state in
    omega (arith, one, turns, few)

-- the peer after what was added has no own frame left to be made
pub still_made : (by to : Chooser) (refused : Bool) (p q : PeerState) → Adds by to refused p q → next_made q.game q.me q.entries ≡ None
still_made by to refused p q a = ap (λ (x : PeerState). next_made x.game x.me x.entries) a.state ∙ a.made

pub makes_all : (by to : Chooser) (r : Bool) (p q : PeerState) → Adds by to false p q → r ≡ may_choose q.game q.me q.entries → r ≡ false → MakesAll by to M.Legal p q
makes_all by to r p q a is none = record { adds = a; stands = sym is ∙ none }

stands_off : (plan mid : Option Plan) (made : Moves) (q s : PeerState) → mid ≡ plan → are_legal made ≡ false → StandsChosen mid made q s → StandsAs plan made s
stands_off plan mid M.Legal q s e off w = absurd (false≢true (sym off))
stands_off plan mid (M.OwnMove turn fault) q s e off w = subst (λ (p : Option Plan). IsOwnMove p turn fault s) e w

pub makes_some : (by mid to : Chooser) (made : Moves) (r : Bool) (p q s : PeerState) → Adds by mid false p q → Chooses mid to made q s → r ≡ are_legal made → r ≡ false → MakesAll by to made p s
makes_some by mid to made r p q s a c is off = record {
  adds = adds_then by mid to (is_refused made) p q s a c.adds;
  stands = stands_off by.plan mid.plan made q s a.choices.plan (sym is ∙ off) c.stands;
}
