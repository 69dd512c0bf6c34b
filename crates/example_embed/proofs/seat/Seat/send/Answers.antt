use Rattle.std.proofs.Common.{◌≡◌, ◌<◌, ◌++◌, ap, ◌∙◌, sym, take, append_assoc, length, arith, subst, List, ℕ}
use Rattle.definitions.specs.Logs.{made}
use Rattle.example_embed.specs.Sending.{bytes_from, made_bytes}
use Rattle.example_embed.proofs.Places.{next_out}
use Rattle.example_embed.proofs.seat.Seat.send.Goals as goal

-- one frame more went out, and the whole stays
more : (out put start rest next due bytes : List ℕ) → out ++ rest ≡ start ++ due → put ≡ out ++ bytes → rest ≡ bytes ++ next → put ++ next ≡ start ++ due
more out put start rest next due bytes whole out_is rest_is =
    ap (λ (p : List ℕ). p ++ next) out_is ∙ (append_assoc out bytes next ∙ (ap (λ (r : List ℕ). out ++ r) (sym rest_is) ∙ whole))

pub loop-self-preserved : goal.loop-self-preserved
loop-self-preserved c =
    let entries = c.args.self.now.peer.entries in
    let few : c.loop-self.self.sent < length (made (take c.args.self.now.stored entries)) = omega (arith, c.sendable-until.ensures.count) in
    let put : c.put_made.new.out.items ≡ c.loop-self.out.items ++ made_bytes entries c.loop-self.self.sent =
    subst (λ p. c.put_made.new.out.items ≡ c.loop-self.out.items ++ made_bytes p.entries c.loop-self.self.sent) c.loop-self.invariant.peer c.in_ok-put_made.ensures.bytes in
    record {
      peer = c.loop-self.invariant.peer;
      bytes = more _ _ c.args.out.now.items _ _ (bytes_from (take c.args.self.now.stored entries) c.args.self.now.sent) _ c.loop-self.invariant.bytes put (next_out entries c.args.self.now.stored c.loop-self.self.sent few);
    }
