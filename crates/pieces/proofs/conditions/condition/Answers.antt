use Rattle.std.proofs.Common.{arith}
use Rattle.pieces.proofs.Tokens.{tokens_begin, token_uses, token_room, token_more, tokens_end}
use Rattle.pieces.proofs.conditions.condition.Goals as goal

pub loop-t-init : goal.loop-t-init
loop-t-init c = tokens_begin c.args.s.now c.args.tokens.now c.requires.2 _ c.requires.0

pub token-requires : goal.token-requires
token-requires c = let l = c.loop-t in
    let s = c.args.s.now in
    let ts = c.args.tokens.now in (
      token_room s ts c.requires.2 l.t-index c.loop-t-test.true l.invariant c.requires.0,
      c.requires.1,
      token_uses s ts c.requires.2 l.t-index c.loop-t-test.true,
    )

pub loop-t-preserved : goal.loop-t-preserved
loop-t-preserved c = let l = c.loop-t in token_more c.args.s.now c.args.tokens.now c.requires.2 l.t-index c.loop-t-test.true l.invariant c.token.ensures

pub returns : goal.returns
returns c = let l = c.loop-t in tokens_end c.args.s.now c.args.tokens.now c.requires.2 _ _ l.t-index (omega arith) (grind arith) l.invariant
