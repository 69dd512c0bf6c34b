use Rattle.std.proofs.Common.{◌++◌, refl}
use Rattle.session_log.proofs.Parts.{text_more}
use Rattle.session_log.proofs.part.Part.add_text.Goals as goal

pub returns-clause-text : goal.returns-clause-text
returns-clause-text c = λ chain text before. text_more c.args.self.now _ chain text c.args.bytes.now refl c.keep.ensures (c.hash_on.ensures (chain ++ text) before.hashed) before
