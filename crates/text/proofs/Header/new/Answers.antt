-- `text::Header::new` meets its contract: a header is its two fields.
use Rattle.std.proofs.Common.{rules}
use Rattle.text.specs.Response.{header_of}
use Rattle.text.proofs.Header.new.Goals as goal

pub returns : goal.returns
unfolding header_of
returns c = search rules
