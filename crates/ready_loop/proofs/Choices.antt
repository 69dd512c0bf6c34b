-- Choices: own moves that a loop chooses between two moments, one behind the other.
use Rattle.std.proofs.Common.{◌≡◌, Bool, false, sym, ap, subst, ◌∙◌, List}
use Rattle.definitions.specs.Logs.{chosen}
use Rattle.socket_station.specs.Items.{Item}
use Rattle.loop_rules.specs.Settings.{Setting}
use Rattle.own_moves.specs.Choices.{Chooser, ChoosesBy}
use Rattle.own_moves.proofs.Choices.{chose_none, chose_then, chose_still}
use Rattle.ready_loop.specs.States.{LoopState, setting_of, choices_of}
use Rattle.ready_loop.specs.Going.{Goes}
use Rattle.ready_loop.specs.Settling.{ChoosesIn}

still_chosen : (l m : LoopState) → setting_of m ≡ setting_of l → choices_of m ≡ choices_of l → chosen l.peer.me m.peer.entries ≡ chosen l.peer.me l.peer.entries
still_chosen l m same chosen_same = sym (ap (λ (s : Setting). chosen s.me m.peer.entries) same) ∙ chosen_same

pub chooses_none : (by : Chooser) (before after : List Item) (l m : LoopState) → Goes before after l m → ChoosesIn by by false l m
chooses_none by before after l m g = chose_none l.peer.game l.peer.me by l.peer.entries m.peer.entries (still_chosen l m g.setting g.chosen)

pub chooses_then : (by mid to : Chooser) (refused : Bool) (l m n : LoopState) → setting_of m ≡ setting_of l → ChoosesIn by mid false l m → ChoosesIn mid to refused m n → ChoosesIn by to refused l n
chooses_then by mid to refused l m n same a b =
    chose_then l.peer.game l.peer.me by mid to refused l.peer.entries m.peer.entries n.peer.entries a
    (subst (λ (s : Setting). ChoosesBy s.game s.me mid to refused m.peer.entries n.peer.entries) same b)

pub goes_chooses : (by to : Chooser) (refused : Bool) (before after : List Item) (l m n : LoopState) → Goes before after l m → ChoosesIn by to refused m n → ChoosesIn by to refused l n
goes_chooses by to refused before after l m n g c = chooses_then by by to refused l m n g.setting (chooses_none by before after l m g) c

pub chooses_goes : (by to : Chooser) (refused : Bool) (before after : List Item) (l m n : LoopState) → setting_of m ≡ setting_of l → ChoosesIn by to refused l m → Goes before after m n → ChoosesIn by to refused l n
chooses_goes by to refused before after l m n same c g =
    chose_still l.peer.game l.peer.me by to refused l.peer.entries m.peer.entries n.peer.entries c
    (ap (λ (s : Setting). chosen s.me n.peer.entries) (sym (g.setting ∙ same)) ∙ g.chosen ∙ ap (λ (s : Setting). chosen s.me m.peer.entries) same)
