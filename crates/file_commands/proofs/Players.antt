-- Players: the lines of players, one after another.
use Rattle.std.proofs.Common.{◌≡◌, ℕ, ◌+◌, ◌-◌, ◌<◌, List, [], ◌++◌, ap, arith, refl, suc, zero, ◌∙◌}
use Rattle.std.specs.Prelude.{Option, flat_map}
use Rattle.std.specs.List.{range_with_len}
use Rattle.auditor.specs.declared.world.WorldLine.{WorldLine}
use Rattle.file_commands.specs.AuditLines.{agreed_line, agreed_lines, told_line, world_lines}

-- the first of these players, and the others
range_more : (f : ℕ → List ℕ) (q n : ℕ) → q < n → flat_map f (range_with_len q (n - q)) ≡ f q ++ flat_map f (range_with_len (q + 1) (n - (q + 1)))
range_more f q n l =
    let k : n - q ≡ suc (n - (q + 1)) = omega arith in
    ap (λ m. flat_map f (range_with_len q m)) k

pub agreed_more : (count : ℕ → ℕ) (q n : ℕ) → q < n → agreed_lines count q (n - q) ≡ agreed_line q (count q) ++ agreed_lines count (q + 1) (n - (q + 1))
unfolding agreed_lines
agreed_more count q n l = range_more (λ p. agreed_line p (count p)) q n l

pub agreed_none : (count : ℕ → ℕ) (q : ℕ) → agreed_lines count q 0 ≡ []
unfolding agreed_lines
agreed_none count q = refl

pub world_more : (line : ℕ → Option WorldLine) (q n : ℕ) → q < n → world_lines line q (n - q) ≡ told_line q (line q) ++ world_lines line (q + 1) (n - (q + 1))
unfolding world_lines
world_more line q n l = range_more (λ p. told_line p (line p)) q n l

pub world_lines_none : (line : ℕ → Option WorldLine) (q : ℕ) → world_lines line q 0 ≡ []
unfolding world_lines
world_lines_none line q = refl

-- what is the same of each of these players
range_alike : (f g : ℕ → List ℕ) (a n : ℕ) → ((q : ℕ) → q < a + n → f q ≡ g q) → flat_map f (range_with_len a n) ≡ flat_map g (range_with_len a n)
range_alike f g a zero same = refl
range_alike f g a (suc n) same =
    ap (λ x. x ++ flat_map f (range_with_len (a + 1) n)) (same a (omega arith)) ∙
    ap (λ x. g a ++ x) (range_alike f g (a + 1) n (λ q lt. same q (omega (arith, lt))))

pub agreed_alike : (count other : ℕ → ℕ) (n : ℕ) → ((q : ℕ) → q < n → count q ≡ other q) → agreed_lines count 0 n ≡ agreed_lines other 0 n
unfolding agreed_lines
agreed_alike count other n same = range_alike (λ q. agreed_line q (count q)) (λ q. agreed_line q (other q)) 0 n (λ q lt. ap (agreed_line q) (same q (omega (arith, lt))))

pub world_alike : (line other : ℕ → Option WorldLine) (n : ℕ) → ((q : ℕ) → q < n → line q ≡ other q) → world_lines line 0 n ≡ world_lines other 0 n
unfolding world_lines
world_alike line other n same = range_alike (λ q. told_line q (line q)) (λ q. told_line q (other q)) 0 n (λ q lt. ap (told_line q) (same q (omega (arith, lt))))
