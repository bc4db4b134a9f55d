-- What `help` and `version` write.
use Rattle.std.specs.Prelude.{ℕ, List, ◌++◌, codes}

-- a line for each command, in the order in which people meet them
abbrev pub help_text : List ℕ
help_text =
    codes "cotpad replay                      reads a script, and writes the report of its session\n"
    ++ (codes "cotpad show                        reads a log, and writes its text\n"
    ++ (codes "cotpad edit SITE ins V TEXT        reads a log, inserts a text after V shown characters, and writes the new log\n"
    ++ (codes "cotpad edit SITE run V TEXT        the same with as few inserts as do, each of at most 256 characters\n"
    ++ (codes "cotpad edit SITE nl V              the same with a line feed\n"
    ++ (codes "cotpad edit SITE del V             reads a log, deletes the shown character V, from 0, and writes the new log\n"
    ++ (codes "cotpad edit SITE undo NAME         reads a log, undoes an insert or delete, whoever made it, and writes the new log\n"
    ++ (codes "cotpad edit SITE redo NAME         the same with a redo, whoever undid it\n"
    ++ (codes "cotpad upgrade                     reads a log of version 1 or 2, and writes it in version 2\n"
    ++ (codes
    "cotpad history                     reads a log, and writes a line for each operation: its name, what it did, if it is in force\n"
    ++ (codes "cotpad digest                      reads a log, and writes hashes of its operations and its text, to compare copies by\n"
    ++ (codes "cotpad explain MEMBER              reads a log, and writes how the form of an operation is derived\n"
    ++ (codes "cotpad where V                     reads a log, and writes the line and column after V shown characters\n"
    ++ (codes "cotpad find L C                    reads a log, and writes after how many shown characters line L column C is\n"
    ++ (codes "cotpad at COUNTS GROUPS            reads a log, and writes its text at a set of operations\n"
    ++ (codes "cotpad playback                    reads a log, and writes its text after each operation\n"
    ++ (codes "cotpad serve PORT                  reads a log, exchanges with who comes to the port, and writes the new log\n"
    ++ (codes "cotpad join PORT                   reads a log, exchanges with who waits at the port, and writes the new log\n"
    ++ (codes "cotpad loop START                  lets two sites exchange over a connection, and writes what went\n"
    ++ (codes "cotpad gen START EVENTS WINDOW     generates a session of four sites, and writes what it did\n"
    ++ (codes "cotpad help                        writes these lines\n"
    ++ (codes "cotpad version                     writes which version of the program this is\n")))))))))))))))))))))

-- the version of the program, which is that of the library for hosts, and the line of the toolchain that it is proved with
abbrev pub version_text : List ℕ
version_text = codes "cotpad 4, proved with rattle-kit-13f\n"
