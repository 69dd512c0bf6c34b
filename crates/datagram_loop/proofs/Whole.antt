-- Whole: a beginning makes a whole run, and each play goes on with it.
use Rattle.std.proofs.Common.{◌≡◌, ℕ, sym, ap, subst, ◌∙◌, List, [], ◌∷◌, ◌++◌, length}
use Rattle.std.specs.Prelude.{Option, take}
use Rattle.definitions.specs.Logs.{chosen}
use Rattle.pilots.specs.Plans.{Plan}
use Rattle.datagram_post.specs.Items.{Item}
use Rattle.own_moves.specs.Choices.{ChoosesBy}
use Rattle.own_moves.proofs.Choices.{chose_none, chose_then}
use Rattle.peer_rules.specs.declared.phases.Phase.TheVariants.{KeepFault}
use Rattle.post_rules.specs.Views.{Setting, View}
use Rattle.post_rules.specs.Histories.{BeginsLog}
use Rattle.post_rules.proofs.Whole.{runs_are_fair}
use Rattle.loop_ends.specs.declared.ends.Ended.{Ended}
use Rattle.loop_ends.specs.declared.ends.Ended.TheVariants as E
use Rattle.datagram_loop.specs.States.{LoopState, setting_of, kept_of, view_of}
use Rattle.datagram_loop.specs.Playing.{StandsEnded}
use Rattle.datagram_loop.specs.Laws.{BeginningsAreRuns, PlaysGoOn}
use Rattle.datagram_loop.proofs.Told.{beginnings_are_told, plays_are_told}
use Rattle.datagram_loop.proofs.Views.{all_kept}

-- a history that goes on begins the same log
named_more : (name : List ℕ) (items more : List Item) → BeginsLog name items → BeginsLog name (items ++ more)
named_more name [] more b = absurd b
named_more name (x ∷ items) more b = b

-- where no call of the log failed, a play leaves no entry unkept
ended_kept : (plan : Option Plan) (polls made : ℕ) (ended : Ended) (v : View) (m : LoopState) → StandsEnded plan polls made ended v m → (m.phase ≡ KeepFault → ⊥) → m.kept ≡ length m.peer.entries
ended_kept plan polls made E.Done v m w n = w.0.kept
ended_kept plan polls made (E.Caught f) v m w n = w.0.kept
ended_kept plan polls made E.PollFault v m w n = w.kept
ended_kept plan polls made E.KeepFault v m w n = absurd (n w)
ended_kept plan polls made (E.OwnMove turn fault) v m w n = w.0.kept
ended_kept plan polls made E.GaveUp v m w n = w.ready.kept

pub beginnings_are_runs : BeginningsAreRuns
beginnings_are_runs name begun by l m items ahead new b =
    let told = beginnings_are_told name begun l m items b in
    let none : m.peer.entries ≡ [] = ap (λ (x : LoopState). x.peer.entries) b.same ∙ new.first in
    record {
      told = told;
      named = b.named;
      fair = runs_are_fair (setting_of l) [] items ahead told.run;
      kept = λ fine. ap kept_of b.same ∙ ap (λ (n : ℕ). take n l.peer.entries) (ap (λ (x : LoopState). x.kept) new.new) ∙ sym none;
      choices = chose_none l.peer.game l.peer.me by [] m.peer.entries (ap (chosen l.peer.me) none);
    }

pub plays_go_on : PlaysGoOn
plays_go_on s name front items before after l m by mid to polls ended ahead r e =
    let x = plays_are_told s front items before after l m mid to polls ended r.told e in (
      x.0,
      e.refused,
      e.refuses,
      record {
        told = x.1;
        named = subst (BeginsLog name) (sym e.follows.grown) (named_more name before e.follows.more r.named);
        fair = runs_are_fair s (front ++ items ∷ []) x.0 ahead x.1.run;
        kept = λ fine. all_kept m (ended_kept mid.plan polls e.settling.polls ended (view_of e.waiting e.settling m) m e.stands fine);
        choices = chose_then s.game s.me by mid to e.refused [] l.peer.entries m.peer.entries r.choices
            (subst (λ (z : Setting). ChoosesBy z.game z.me mid to e.refused l.peer.entries m.peer.entries) r.told.setting e.choices);
      },
    )
