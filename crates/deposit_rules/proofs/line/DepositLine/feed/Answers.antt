use Rattle.std.proofs.lemmas.List.{take_rest}
use Rattle.deposit_rules.proofs.Heard.{fed_rest, place_rest}
use Rattle.deposit_rules.proofs.line.DepositLine.feed.Goals as goal

pub frames-preserved : goal.frames-preserved
frames-preserved c =
    let rest = take_rest c.frames.rest.now c.feed-fed.result.used in
    record {
      same = fed_rest c.frames.self c.hear.new.self c.feed-fed.new.self c.in-Whole.frame c.feed-fed.result.what c.feed-fed.result.used c.frames.rest.now _ c.args.bytes.now c.args.self.now c.feed-fed.ensures.rest c.in-Whole.is c.hear.ensures rest c.frames.invariant.same;
      place = place_rest c.frames.self c.hear.new.self c.feed-fed.new.self c.in-Whole.frame c.feed-fed.result.used _ c.frames.rest.now _ c.hear.ensures c.feed-fed.ensures.place c.feed-fed.ensures.within rest c.frames.invariant.place;
    }
