use Rattle.std.proofs.Common.{◌≡◌, ◌++◌, List, ℕ, length, sym, ◌∙◌, ap, arith}
use Rattle.make_command.proofs.Nonces.{bytes_long, words_begun, words_next}
use Rattle.make_command.proofs.playing.draw_nonce.Goals as goal

pub loop-word-init : goal.loop-word-init
loop-word-init c = ap (λ (bytes : List ℕ). (bytes, c.args.chance.now)) c.new-words.ensures ∙ sym (words_begun c.args.chance.now)

pub unwrap-requires : goal.unwrap-requires
unwrap-requires c =
    let long = bytes_long c.loop-word.word c.args.chance.now c.loop-word.words.items c.loop-word.chance c.loop-word.invariant in
    let four : length c.to_be_bytes.result ≡ 4 = ap length c.to_be_bytes.ensures in
    let lt = c.loop-word-test.true in
    c.try_extend_from_slice.ensures.variant.1 (omega (arith, long, four, lt))

pub loop-word-preserved : goal.loop-word-preserved
loop-word-preserved c =
    let items = rw c.unwrap.ensures at c.try_extend_from_slice.ensures.ok in
    words_next c.loop-word.word c.args.chance.now c.loop-word.words.items c.loop-word.chance c.next_word.result c.next_word.new.self c.try_extend_from_slice.new.self.items c.loop-word.invariant c.next_word.ensures
    (items ∙ ap (λ (bytes : List ℕ). c.loop-word.words.items ++ bytes) c.to_be_bytes.ensures)

pub copy_from_slice-requires : goal.copy_from_slice-requires
copy_from_slice-requires c =
    let long = bytes_long c.loop-word.word c.args.chance.now c.loop-word.words.items c.loop-word.chance c.loop-word.invariant in
    let same : length c.as_slice.result.now ≡ length c.loop-word.words.items = ap length c.as_slice.ensures.value in
    let all = c.loop-word-test.false in
    omega (arith, long, same, all)
