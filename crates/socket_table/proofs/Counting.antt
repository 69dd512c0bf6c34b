-- Counting: a line that is fine, or was dialled for a player, was so before it changed.
use Rattle.std.proofs.Common.{◌≡◌, ℕ, Bool, true, false, refl, sym, ap, ◌∙◌}
use Rattle.std.specs.Prelude.{Option, ◌&&◌, not, is_none}
use Rattle.std.proofs.lemmas.Bool.{and_parts, false≢true}
use Rattle.socket_lines.specs.declared.line.Line.{Line}
use Rattle.socket_lines.specs.Lines.{is_player}
use Rattle.loop_rules.proofs.Alike.{Same}
use Rattle.socket_table.specs.Sound.{is_fine, is_dialled_for}

pub fine_before : (l m : Line) → Same l m → is_fine m ≡ true → is_fine l ≡ true
fine_before l m s e =
    let p = and_parts _ _ e in
    let q = and_parts _ _ p.0 in
    all_fine l.is_open l.is_wrong (s.opened q.0) (ap is_none s.dialled) q.1 (right l.is_wrong m.is_wrong s.wrong p.1)
  where
    right : (b c : Bool) → (b ≡ true → c ≡ true) → not c ≡ true → b ≡ false
    right true c w n = absurd (false≢true (ap not (sym (w refl)) ∙ n))
    right false c w n = refl

    all_fine : (o w : Bool) → o ≡ true → is_none m.dialled ≡ is_none l.dialled → is_none m.dialled ≡ true → w ≡ false → (o && is_none l.dialled && not w) ≡ true
    all_fine true true a b d c = absurd (false≢true (sym c))
    all_fine false w a b d c = absurd (false≢true a)
    all_fine true false a b d c = ap (λ (x : Bool). x && true) (sym b ∙ d)

pub dialled_before : (q : ℕ) (l m : Line) → Same l m → is_dialled_for q m ≡ true → is_dialled_for q l ≡ true
dialled_before q l m s e =
    let p = and_parts _ _ e in
    ap (λ (x : Bool). x && is_player l.dialled q) (s.opened p.0) ∙ ap (λ (o : Option ℕ). is_player o q) (sym s.dialled) ∙ p.1
