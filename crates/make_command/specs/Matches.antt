-- Matches: a match that bots play, from its first step to its end, drawn by a number.
use Rattle.std.specs.Prelude.{ℕ, zero, suc, ◌+◌, ◌%◌, ◌^◌, Bool, true, false, not, ◌&&◌, ◌==◌, List, [], ◌++◌, Option, Some, None, if◌then◌else◌}
use Rattle.std.specs.Int.{w32, to_be_bytes}
use Rattle.rand_pcg.specs.Lcg.{Lcg}
use Rattle.rand_pcg.specs.Pcg.{pcg32}
use Rattle.definitions.specs.declared.openings.Nonce.{Nonce}
use Rattle.definitions.specs.declared.logs.Entry.{Entry}
use Rattle.definitions.specs.World.{Game}
use Rattle.definitions.specs.Honest.{chosen_track}
use Rattle.definitions.specs.Steps.{Choose, Deliver, Logs, after, log_of}
use Rattle.pilots.specs.Choices.{choice_of}
use Rattle.pilots.specs.Draws.{draw, generator_of}
use Rattle.schedule.specs.declared.stands.Stand.{Stand}
use Rattle.schedule.specs.declared.stands.Stand.TheVariants.{Caught, Moving, Behind, Held, Finished}
use Rattle.schedule.specs.Stands.{stand}
use Rattle.schedule.specs.Steps.{first_logs}
use Rattle.make_command.specs.declared.counts.Counts.{Counts}

-- a match: its session, the logs of its players, the generator of their bots and the one for all else, what was counted, and whether the
-- last frame that was to be delivered was lost
pub record Match : Type 0 where
  pub game : Game
  pub logs : Logs
  pub bots : Lcg
  pub rest : Lcg
  pub counts : Counts
  pub was_lost : Bool

-- the bytes of so many words, each as four bytes with the highest first, and the generator behind them
unfoldable pub words_of : (count : ℕ) → Lcg → List ℕ × Lcg
words_of zero g = ([], g)
words_of (suc n) g =
    let before = words_of n g in
    (before.0 ++ to_be_bytes w32 (pcg32 before.1).0, (pcg32 before.1).1)

-- the next nonce: eight words
unfoldable pub nonce_of : Lcg → Nonce × Lcg
nonce_of g = (record { bytes = (words_of 8 g).0 }, (words_of 8 g).1)

-- ---- what comes next

-- the player whose log this is lets its bot choose, by where it will stand; a player without a log doesn't
abbrev pub moved : Match → (p : ℕ) → Option (List Entry) → Match
moved m p None = m
moved m p (Some h) =
    let choice = choice_of m.game (chosen_track m.game p h) m.bots in
    let nonce = nonce_of m.rest in
    record {
      game = m.game;
      logs = after m.game m.logs (Choose p choice.0 nonce.0);
      bots = choice.1;
      rest = nonce.1;
      counts = record m.counts { chosen = m.counts.chosen + 1 };
      was_lost = m.was_lost;
    }

-- the match with this generator for all else
abbrev pub drawn : Match → Lcg → Match
drawn m g = record m { rest = g }

-- the frame is lost
abbrev pub lost : Match → Match
lost m = record m { counts = record m.counts { lost = m.counts.lost + 1 }; was_lost = true }

-- q's frame of this place is delivered to p
abbrev pub delivered : Match → (p q place : ℕ) → Match
delivered m p q place = record m { logs = after m.game m.logs (Deliver q p place); counts = record m.counts { delivered = m.counts.delivered + 1 }; was_lost = false }

-- q's frame of this place is delivered to p, who may have it
abbrev pub repeated : Match → (p q place : ℕ) → Match
repeated m p q place = record m { logs = after m.game m.logs (Deliver q p place); counts = record m.counts { repeated = m.counts.repeated + 1 } }

-- a frame up to this place is drawn and delivered, and then the one of this place
abbrev pub delivered_behind : Match → (p q place : ℕ) → Match
delivered_behind m p q place =
    let k = draw (place + 1) m.rest in
    delivered (repeated (drawn m k.1) p q k.0) p q place

-- p lacks q's frame of this place: by what is drawn of 0 to 3 it is lost, unless the one before was, or delivered behind another, or delivered
abbrev pub brought_by : Match → (p q place e : ℕ) → Match
brought_by m p q place e =
    if (e == 0) && not m.was_lost then lost m
    else if e == 1 then delivered_behind m p q place
    else delivered m p q place

abbrev pub brought : Match → (p q place : ℕ) → Match
brought m p q place =
    let e = draw 4 m.rest in
    brought_by (drawn m e.1) p q place e.0

-- the match behind what comes next where it stands so
abbrev pub next_by : Match → Stand → Match
next_by m (Caught p) = m
next_by m (Moving p) = moved m p (log_of m.logs p)
next_by m (Behind p q place) = brought m p q place
next_by m (Held q) = m
next_by m Finished = m

-- nothing comes next
abbrev pub is_over : Stand → Bool
is_over (Caught p) = true
is_over (Moving p) = false
is_over (Behind p q place) = false
is_over (Held q) = true
is_over Finished = true

-- the match behind so many steps, or fewer where it is over before
unfoldable pub played : (steps : ℕ) → Match → Match
played zero m = m
played (suc n) m = if is_over (stand m.game m.logs) then m else played n (next_by m (stand m.game m.logs))

-- nothing was counted
abbrev pub no_counts : Counts
no_counts = record { chosen = 0; delivered = 0; lost = 0; repeated = 0 }

-- a match in this session, of this number, before its first step: nobody is hostile
unfoldable pub first_match : Game → (number : ℕ) → Match
first_match game number = record {
  game = game;
  logs = first_logs game 0;
  bots = generator_of ((number + 1) % 2 ^ 64);
  rest = generator_of ((number + 2) % 2 ^ 64);
  counts = no_counts;
  was_lost = false;
}

-- the most steps of a match in the session of a number: 8 players choose for 200 turns each, the 400 frames of each come to the 7 others, and no
-- two frames are lost one behind the other
abbrev pub most_steps : ℕ
most_steps = 46400
