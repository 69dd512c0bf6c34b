-- Players: the lines about players, one after another.
use Rattle.std.proofs.Common.{◌≡◌, ℕ, ◌+◌, ◌-◌, ◌<◌, List, [], ◌++◌, ap, arith, refl, suc, ◌∙◌}
use Rattle.definitions.specs.declared.logs.Entry.{Entry}
use Rattle.definitions.specs.World.{Game}
use Rattle.report_lines.specs.Report.{players_text, viewed_text}

-- the first of these players, and the others
players_suc : (game : Game) (me : ℕ) (h : List Entry) (q k : ℕ) → players_text game me h q (suc k) ≡ viewed_text game me h q ++ players_text game me h (q + 1) k
unfolding players_text
players_suc game me h q k = refl

pub players_more : (game : Game) (me : ℕ) (h : List Entry) (q n : ℕ) → q < n →
    players_text game me h q (n - q) ≡ viewed_text game me h q ++ players_text game me h (q + 1) (n - (q + 1))
players_more game me h q n l =
    let k : n - q ≡ suc (n - (q + 1)) = omega arith in
    ap (players_text game me h q) k ∙ players_suc game me h q (n - (q + 1))

pub players_none : (game : Game) (me : ℕ) (h : List Entry) (q : ℕ) → players_text game me h q 0 ≡ []
unfolding players_text
players_none game me h q = refl
