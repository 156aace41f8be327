-- `put_bytes::copy` meets its contract: what is written to a part of the buffer is put there. Assumes nothing.
use Rattle.std.proofs.Common.{refl, sym, ◌∙◌, arith, length}
use Rattle.std.proofs.lemmas.Slice.{put_mid-paste}
use Rattle.listing.proofs.ListingLaws.{put-paste}
use Rattle.put_bytes.proofs.copy.Goals as goal

pub returns : goal.returns
returns c =
    let from = c.args.from.now in
    put_mid-paste _ _ _ _ from (length from) c.copy_from_slice.ensures.after (omega arith) refl
    ∙ sym (put-paste c.args.at from c.args.out.now)
