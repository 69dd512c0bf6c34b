-- Cleared: a peer's tables while what came of the other players is forgotten, one player after another.
use Rattle.std.proofs.Common.{◌≡◌, ◌≢◌, ℕ, ◌+◌, ◌<◌, ◌≤◌, false, List, [], refl, sym, ◌∙◌, ap, subst, arith, inl, inr, length, set, get_or, length-set, get_or-set_same, get_or-set_other}
use Rattle.std.proofs.lemmas.Bool.{cases_eq}
use Rattle.definitions.specs.declared.world.Cell.{Cell}
use Rattle.definitions.specs.declared.world.Seat.{Seat}
use Rattle.definitions.specs.declared.logs.Entry.{Entry}
use Rattle.definitions.specs.World.{Game, players_of, no_seat, seat_of}
use Rattle.definitions.specs.Logs.{got_of}
use Rattle.definitions.specs.Held.{Known as Shown}
use Rattle.definitions.proofs.Items.{map_item}
use Rattle.definition_laws.proofs.ForPeers.{known_without_got}
use Rattle.dilation.specs.Dilated.{cell_of, starts_of}
use Rattle.dilation.proofs.Items.{item_set, item_set_other}
use Rattle.peer_window.specs.Windows.{Seen, IsWindow}
use Rattle.wait_rule.specs.declared.views.View.{View}
use Rattle.wait_rule.specs.Waiting.{no_view}
use Rattle.wait_rule.specs.declared.meeting.Meeting.{Meeting}
use Rattle.wait_rule.specs.Spheres.{IsMeeting, cells_in}
use Rattle.wait_rule.proofs.ForPeers.{last_cells_start}
use Rattle.peer_core.specs.Others.{Known, AreOthers, AreCleared, IsOpened}
use Rattle.peer_core.proofs.Tables.{opened_of, opened_view}

-- nothing is forgotten yet
pub cleared_none : (game : Game) (me : ℕ) (h : List Entry) (o : Known) → AreOthers game me h o → AreCleared game me 0 o
cleared_none game me h o a = record {
  count = a.count;
  count_views = a.count_views;
  rule_is = a.rule_is;
  windows = λ q d lt other. let i = a.each q d lt other in i.window;
  players = λ q d lt other. let i = a.each q d lt other in i.player;
  opened = λ q d lt other. absurd (omega arith);
  blank = λ q v lt other. absurd (omega arith);
  cells = λ q lt other. absurd (omega arith);
}

-- the owner is passed over
pub cleared_own : (game : Game) (me n : ℕ) (o : Known) → n ≡ me → AreCleared game me n o → AreCleared game me (n + 1) o
cleared_own game me n o e c = record {
  count = c.count;
  count_views = c.count_views;
  rule_is = c.rule_is;
  windows = c.windows;
  players = c.players;
  opened = λ q d lt other. c.opened q d (omega (arith, other)) other;
  blank = λ q v lt other. c.blank q v (omega (arith, other)) other;
  cells = λ q lt other. c.cells q (omega (arith, other)) other;
}

start_is : (game : Game) (q : ℕ) → q < players_of game → (seat_of game q).start ≡ cell_of (starts_of game) q
start_is game q lt = sym (map_item (λ (s : Seat). s.start) game.seats q no_seat no_seat.start lt)

-- one player more is forgotten
pub cleared_one : (game : Game) (me p i : ℕ) (o : Known) (old w : Seen) (v : View) (cell : Cell) (rule : Meeting) → i ≡ p → p < players_of game → p ≢ me → length (cells_in o.rule) ≡ players_of game →
    AreCleared game me p o → old ≡ get_or o.windows i old → IsWindow game w → w.player ≡ old.player → w.frames ≡ [] → w.closed ≡ false → v ≡ no_view → cell ≡ (seat_of game p).start →
    IsMeeting game rule → cells_in rule ≡ set (cells_in o.rule) p cell → AreCleared game me (p + 1) (record { windows = set o.windows i w; views = set o.views i v; rule = rule })
cleared_one game me p i o old w v cell rule e lt apart seen c there window player frames closed view at made told =
    let Are : ℕ → Type 0 = λ k. AreCleared game me (p + 1) (record { windows = set o.windows k w; views = set o.views k v; rule = rule }) in
    subst Are (sym e) (record {
      count = length-set o.windows p w ∙ c.count;
      count_views = length-set o.views p v ∙ c.count_views;
      rule_is = made;
      windows = λ q d l other. elim (cases_eq q p) [
        | inl same ↦ subst (IsWindow game) (sym (here q d same)) window
        | inr differs ↦ subst (IsWindow game) (sym (get_or-set_other o.windows p q w d differs)) (c.windows q d l other)
      ];
      players = λ q d l other. elim (cases_eq q p) [
        | inl same ↦ ap (λ (x : Seen). x.player) (here q d same) ∙ mine ∙ sym same
        | inr differs ↦ ap (λ (x : Seen). x.player) (get_or-set_other o.windows p q w d differs) ∙ c.players q d l other
      ];
      opened = λ q d l other. elim (cases_eq q p) [
        | inl same ↦ subst (IsOpened game q) (sym (here q d same)) (subst (λ k. IsOpened game k w) (sym same) (record { window = window; player = mine; empty = frames; still = closed }))
        | inr differs ↦ subst (IsOpened game q) (sym (get_or-set_other o.windows p q w d differs)) (c.opened q d (omega (arith, differs)) other)
      ];
      blank = λ q x l other. elim (cases_eq q p) [
        | inl same ↦ ap (λ k. get_or (set o.views p v) k x) same ∙ get_or-set_same o.views p v x (omega (arith, c.count_views)) ∙ view
        | inr differs ↦ get_or-set_other o.views p q v x differs ∙ c.blank q x (omega (arith, differs)) other
      ];
      cells = λ q l other. ap (λ (cs : List Cell). cell_of cs q) told ∙ (elim (cases_eq q p) [
        | inl same ↦ ap (cell_of (set (cells_in o.rule) p cell)) same ∙ item_set (cells_in o.rule) p cell no_seat.start (omega (arith, seen)) ∙ at ∙ start_is game p lt ∙ ap (cell_of (starts_of game)) (sym same)
        | inr differs ↦ item_set_other (cells_in o.rule) p q cell no_seat.start differs ∙ c.cells q (omega (arith, differs)) other
      ]);
    })
  where
    here : (q : ℕ) (d : Seen) → q ≡ p → get_or (set o.windows p w) q d ≡ w
    here q d same = ap (λ k. get_or (set o.windows p w) k d) same ∙ get_or-set_same o.windows p w d (omega (arith, c.count))

    mine : w.player ≡ p
    mine = player ∙ ap (λ (x : Seen). x.player) (there ∙ ap (λ k. get_or o.windows k old) e) ∙ c.players p old lt apart

-- all are forgotten
pub cleared_all : (game : Game) (me n : ℕ) (o : Known) → players_of game ≤ n → AreCleared game me n o → AreOthers game me [] o
unfolding got_of
cleared_all game me n o le c = record {
  count = c.count;
  each = λ q d lt other. opened_of game me q (get_or o.windows q d) other (c.opened q d (omega arith) other);
  count_views = c.count_views;
  views_are = λ q d x lt other. c.blank q x (omega arith) other ∙ opened_view game me q (get_or o.windows q d) other (c.opened q d (omega arith) other);
  rule_is = c.rule_is;
  cells_are = λ q lt other. c.cells q (omega arith) other ∙ last_cells_start game me [] (λ k apart. ap (λ (x : Shown). x.moves) (known_without_got game me k [] apart refl)) q lt other;
}
