use Rattle.std.proofs.Common.{◌≡◌, drop}
use Rattle.post_rules.specs.Hearing.{partner_of}
use Rattle.datagram_loop.proofs.hearing.is_stranger.Given as goal

abbrev pub invariant-loop-partner : goal.invariant-loop-partner
invariant-loop-partner l = partner_of l.partners l.player ≡ partner_of (drop l.partner-index l.partners) l.player
