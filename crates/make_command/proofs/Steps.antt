-- Steps: a match step by step, and how far its counts have come.
use Rattle.std.proofs.Common.{◌≡◌, ◌≤◌, ◌<◌, ◌+◌, ◌-◌, ℕ, zero, suc, Bool, true, false, List, Option, None, Some, refl, sym, ap, ◌∙◌, arith}
use Rattle.std.proofs.lemmas.Bool.{not-true, not-false}
use Rattle.std.specs.Prelude.{not, ◌&&◌, ◌==◌, if◌then◌else◌}
use Rattle.definitions.specs.declared.logs.Entry.{Entry}
use Rattle.definitions.specs.Steps.{log_of}
use Rattle.pilots.specs.Draws.{draw}
use Rattle.schedule.specs.declared.stands.Stand.{Stand}
use Rattle.schedule.specs.declared.stands.Stand.TheVariants.{Caught, Moving, Behind, Held, Finished}
use Rattle.schedule.specs.Stands.{stand}
use Rattle.make_command.specs.declared.counts.Counts.{Counts}
use Rattle.make_command.specs.Bounds.{AreWithin}
use Rattle.make_command.specs.Matches.{Match, delivered, delivered_behind, drawn, is_over, lost, moved, next_by, played}

pub played_over : (n : ℕ) (m : Match) → is_over (stand m.game m.logs) ≡ true → played n m ≡ m
unfolding played
played_over zero m e = refl
played_over (suc n) m e = rw e refl

pub played_on : (n : ℕ) (m : Match) → is_over (stand m.game m.logs) ≡ false → played (suc n) m ≡ played n (next_by m (stand m.game m.logs))
unfolding played
played_on n m e = rw e refl

pub played_none : (m : Match) → played 0 m ≡ m
unfolding played
played_none m = refl

-- where it is over, nothing comes next
pub over_stays : (m : Match) (s : Stand) → is_over s ≡ true → next_by m s ≡ m
over_stays m (Caught p) e = refl
over_stays m (Moving p) e = absurd (let never : false ≡ true = e in cc)
over_stays m (Behind p q place) e = absurd (let never : false ≡ true = e in cc)
over_stays m (Held q) e = refl
over_stays m Finished e = refl

-- a count that grew by one, or is as it was
abbrev grown : Bool → ℕ → ℕ
grown b count = if b then count + 1 else count

grown-le : (b : Bool) (count n : ℕ) → count ≤ n → grown b count ≤ n + 1
grown-le true count n le = omega (arith, le)
grown-le false count n le = omega (arith, le)

-- counts within a number of steps are within one more, also where some of them grew by one
within_grown : (c : Counts) (n : ℕ) (chosen delivered lost repeated : Bool) → AreWithin c n →
    AreWithin (record { chosen = grown chosen c.chosen; delivered = grown delivered c.delivered; lost = grown lost c.lost; repeated = grown repeated c.repeated }) (n + 1)
within_grown c n chosen delivered lost repeated w = record {
  chosen = grown-le chosen c.chosen n w.chosen;
  delivered = grown-le delivered c.delivered n w.delivered;
  lost = grown-le lost c.lost n w.lost;
  repeated = grown-le repeated c.repeated n w.repeated;
}

-- and so are they behind what comes next
pub within_next : (m : Match) (s : Stand) (n : ℕ) → AreWithin m.counts n → AreWithin (next_by m s).counts (n + 1)
within_next m (Caught p) n w = within_grown m.counts n false false false false w
within_next m (Moving p) n w = go (log_of m.logs p)
  where
    go : (o : Option (List Entry)) → AreWithin (moved m p o).counts (n + 1)
    go None = within_grown m.counts n false false false false w
    go (Some h) = within_grown m.counts n true false false false w
within_next m (Behind p q place) n w = go (((draw 4 m.rest).0 == 0) && not m.was_lost) ((draw 4 m.rest).0 == 1)
  where
    go : (a b : Bool) → AreWithin (if a then lost (drawn m (draw 4 m.rest).1) else if b then delivered_behind (drawn m (draw 4 m.rest).1) p q place else delivered (drawn m (draw 4 m.rest).1) p q place).counts (n + 1)
    go true b = within_grown m.counts n false false true false w
    go false true = within_grown m.counts n false true false true w
    go false false = within_grown m.counts n false true false false w
within_next m (Held q) n w = within_grown m.counts n false false false false w
within_next m Finished n w = within_grown m.counts n false false false false w

-- ---- a match that is played step by step

-- where nothing came next, it is as it was and as it will be
pub stopped : (n : ℕ) (m k end : Match) (on : Bool) → on ≡ false → on ≡ not (is_over (stand m.game m.logs)) → k ≡ next_by m (stand m.game m.logs) → played n m ≡ end → k ≡ end
stopped n m k end on off is next rest =
    let over : is_over (stand m.game m.logs) ≡ true = not-false (is_over (stand m.game m.logs)) (sym is ∙ off) in
    next ∙ over_stays m (stand m.game m.logs) over ∙ sym (played_over n m over) ∙ rest

-- else one step less is left
pub went_on : (n i : ℕ) (m k end : Match) (on : Bool) → i < n → on ≡ true → on ≡ not (is_over (stand m.game m.logs)) → k ≡ next_by m (stand m.game m.logs) → played (n - i) m ≡ end →
    played (n - (i + 1)) k ≡ end
went_on n i m k end on lt so is next rest =
    let not_over : is_over (stand m.game m.logs) ≡ false = not-true (is_over (stand m.game m.logs)) (sym is ∙ so) in
    let left : n - i ≡ suc (n - (i + 1)) = omega (arith, lt) in
    ap (played (n - (i + 1))) next ∙ sym (played_on (n - (i + 1)) m not_over) ∙ ap (λ (j : ℕ). played j m) (sym left) ∙ rest

-- and at last none is
pub ran_out : (n i : ℕ) (m end : Match) → n ≤ i → played (n - i) m ≡ end → m ≡ end
ran_out n i m end le rest =
    let none : n - i ≡ 0 = omega (arith, le) in
    sym (played_none m) ∙ ap (λ (j : ℕ). played j m) (sym none) ∙ rest
