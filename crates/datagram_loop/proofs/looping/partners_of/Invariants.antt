use Rattle.std.proofs.Common.{◌≡◌, take}
use Rattle.post_rules.specs.Views.{new_partners}
use Rattle.datagram_loop.proofs.looping.partners_of.Given as goal

abbrev pub invariant-loop-link : goal.invariant-loop-link
invariant-loop-link l = l.partners.items ≡ new_partners (take l.link-index l.links)
