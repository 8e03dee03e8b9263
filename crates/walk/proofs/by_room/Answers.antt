-- `walk::by_room` meets its contract. Assumes nothing.
use Rattle.walk.proofs.Ending as ending
use Rattle.walk.proofs.by_room.Goals as goal

pub returns-then-v-ne-DONE : goal.returns-then-v-ne-DONE
returns-then-v-ne-DONE c =
    let args = c.args in
    ending.fits_refused args.w args.room args.bytes c.if-v-ne-DONE.true

pub returns-then-room-count : goal.returns-then-room-count
returns-then-room-count c =
    let args = c.args in
    ending.fits-few args.w args.room args.bytes c.if-v-ne-DONE.false c.if-room-count.true

pub returns-then-bytes-w : goal.returns-then-bytes-w
returns-then-bytes-w c =
    let args = c.args in
    ending.fits-short args.w args.room args.bytes c.if-v-ne-DONE.false c.if-room-count.false c.if-bytes-w.true

pub returns : goal.returns
returns c =
    let args = c.args in
    ending.fits-done args.w args.room args.bytes c.if-v-ne-DONE.false c.if-room-count.false c.if-bytes-w.false
