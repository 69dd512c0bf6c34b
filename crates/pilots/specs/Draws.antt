-- Draws: the numbers that a generator draws, one from each of its words.
use Rattle.std.specs.Prelude.{ℕ, ◌%◌}
use Rattle.rand_core.specs.Pcg32Seed.{pcg32_seed}
use Rattle.rand_pcg.specs.Lcg.{Lcg}
use Rattle.rand_pcg.specs.Pcg.{pcg32, pcg32_of_seed}

-- the generator of a number: a Pcg32 of the seed of 16 bytes that the number gives
unfoldable pub generator_of : ℕ → Lcg
generator_of number = pcg32_of_seed (pcg32_seed 16 number)

-- a number below n, from the generator's next word, and the generator behind that word
unfoldable pub draw : ℕ → Lcg → ℕ × Lcg
draw n g = ((pcg32 g).0 % n, (pcg32 g).1)
