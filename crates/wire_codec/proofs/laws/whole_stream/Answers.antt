use Rattle.wire_codec.proofs.Streaming.{stream_bytes, stream_taken, stream_version}
use Rattle.wire_codec.proofs.laws.whole_stream.Goals as goal

pub returns-clause-bytes : goal.returns-clause-bytes
returns-clause-bytes c = stream_bytes

pub returns-clause-taken : goal.returns-clause-taken
returns-clause-taken c = stream_taken

pub returns-clause-version : goal.returns-clause-version
returns-clause-version c = stream_version
