use Rattle.app_tokens.proofs.Texts.{IsCharBoundary-plain}
use Rattle.app_tokens.proofs.text.push_plain.Goals as goal

pub split_at-requires : goal.split_at-requires
split_at-requires c = rw (c.plain_size.ensures, c.as_bytes.ensures.value) (IsCharBoundary-plain c.args.rest.now)
